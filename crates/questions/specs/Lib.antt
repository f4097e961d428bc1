pub mod Sizes
pub mod Distinct
pub mod Columns
pub mod Questions
pub mod Forms
