pub mod Promised
pub mod Opened
pub mod Examples
