pub mod Counting
pub mod Fields
pub mod Holding
pub mod Opened
pub mod Versions
