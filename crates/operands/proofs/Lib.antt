pub mod ValueLaws
pub mod OperandLaws
pub mod ListLaws
pub mod Standing
