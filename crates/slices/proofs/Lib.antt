pub mod Decided
pub mod Equal
pub mod Order
pub mod Parts
pub mod PieceLaws
pub mod Rest
