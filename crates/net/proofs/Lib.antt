pub mod Tokens
pub mod Firing
