pub mod Sizes
pub mod Reading
pub mod Paths
pub mod Values
pub mod Sections
pub mod Data
pub mod Forms
