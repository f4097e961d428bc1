pub mod Laws
pub mod LastStar
pub mod Computed
pub mod Cases
pub mod Opened
pub mod Texts
pub mod Trials
