pub mod Listed
pub mod Lexemes
pub mod Reads
pub mod Reader
