pub mod Pairs
pub mod Spelling
