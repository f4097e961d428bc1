pub mod Gates
pub mod Texts
