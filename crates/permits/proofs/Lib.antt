pub mod Means
pub mod Values
pub mod Tests
pub mod Says
pub mod Examples
