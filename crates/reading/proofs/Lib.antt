pub mod Readers
pub mod Complete
pub mod Local
pub mod Stream
pub mod Opened
pub mod Listed
