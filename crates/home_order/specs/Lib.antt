pub mod HomeOrder
pub mod Sums
pub mod Goers
pub mod Points
pub mod Homes
pub mod Peaks
