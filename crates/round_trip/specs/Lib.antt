pub mod Compare
pub mod Trips
