pub mod Bits
pub mod ByMarks
