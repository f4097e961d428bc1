pub mod Sheets
pub mod Asked
pub mod Promise
