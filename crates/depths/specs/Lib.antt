pub mod Columns
pub mod Looks
