pub mod Placed
pub mod Said
pub mod Words
pub mod Moved
