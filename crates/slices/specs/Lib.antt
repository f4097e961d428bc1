pub mod Ascii
pub mod Decides
pub mod Order
pub mod Parts
pub mod Same
pub mod Standing
