pub mod Stored
pub mod ReadBack
pub mod Ready
pub mod Alike
