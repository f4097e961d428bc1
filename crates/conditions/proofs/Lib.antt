pub mod Chains
pub mod Forms
pub mod Nested
