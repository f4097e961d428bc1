pub mod Kinds
pub mod Entries
pub mod Layout
pub mod Recorded
