pub mod LineLaws
pub mod TallyLaws
