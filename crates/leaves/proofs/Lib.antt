pub mod Simple
pub mod Wildcards
pub mod Counted
pub mod Handed
