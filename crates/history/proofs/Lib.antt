pub mod Distances
pub mod Answered
pub mod Evenings
