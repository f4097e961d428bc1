pub mod Deciding
pub mod Marking
pub mod Versions
pub mod Paths
pub mod WordLaws
pub mod Opened
pub mod Examples
