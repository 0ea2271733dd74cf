pub mod Joins
pub mod Sizes
pub mod Needs
pub mod Shows
