pub mod Lent
pub mod Tallies
pub mod Counted
pub mod Promise
