pub mod Values
pub mod Lookups
