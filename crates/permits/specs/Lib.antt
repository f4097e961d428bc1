pub mod Permits
pub mod Meaning
pub mod Promise
