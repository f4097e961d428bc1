pub mod Answers
pub mod Promises
pub mod Cases
pub mod Grounds
