pub mod Agreeing
pub mod Naming
pub mod Steady
pub mod Numbering
pub mod Finding
