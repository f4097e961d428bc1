pub mod Exponent
pub mod NumberTokens
pub mod Reading
pub mod Rounded
pub mod Spelled
pub mod Opened
