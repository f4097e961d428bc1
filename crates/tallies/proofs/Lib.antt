pub mod Lending
pub mod Refusing
pub mod Groups
pub mod Deciders
pub mod Promised
pub mod Cases
