pub mod StepLaws
pub mod FindLaws
pub mod BagLaws
pub mod Answers
pub mod Opened
pub mod Examples
pub mod WordLaws
