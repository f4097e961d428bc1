pub mod Finite
