pub mod Values
pub mod Conditions
pub mod Targets
pub mod Decisions
pub mod Paths
pub mod Versions
