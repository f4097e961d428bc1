pub mod Added
pub mod Decimals
