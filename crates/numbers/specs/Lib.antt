pub mod Bits
pub mod Comparing
pub mod Literals
