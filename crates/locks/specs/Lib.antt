pub mod Reading
pub mod Answers
pub mod Forms
pub mod Promise
