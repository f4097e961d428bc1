pub mod PlaceLaws
pub mod Opened
pub mod Examples
