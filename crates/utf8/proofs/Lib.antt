pub mod Bytes
pub mod OneCharacter
pub mod Opened
pub mod Readings
pub mod Counting
pub mod Places
pub mod Fours
pub mod Examples
