pub mod MarkLaws
pub mod Counting
pub mod HeldLaws
pub mod Answering
pub mod Promised
pub mod Opened
