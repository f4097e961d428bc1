pub mod Rows
pub mod Listing
pub mod Pages
pub mod Lines
pub mod Tally
