pub mod FormLaws
pub mod MatchLaws
