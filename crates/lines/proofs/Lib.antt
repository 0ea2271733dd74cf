pub mod Digits
pub mod Spaces
pub mod Sayings
pub mod Fronts
