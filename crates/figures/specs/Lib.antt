pub mod Sound
pub mod Way
pub mod Claims
pub mod Placing
pub mod Sheets
pub mod Laws
