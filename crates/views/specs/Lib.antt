pub mod Meaning
pub mod Values
pub mod Rows
pub mod Places
