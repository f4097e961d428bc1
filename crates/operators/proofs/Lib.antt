pub mod VerdictLaws
pub mod OperatorLaws
pub mod FlatLaws
