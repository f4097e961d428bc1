pub mod DifferLaws
pub mod ColumnLaws
pub mod DistinctLaws
pub mod Exactly
pub mod PlaceLaws
pub mod Opened
pub mod Examples
