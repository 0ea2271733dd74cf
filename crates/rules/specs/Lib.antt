pub mod Placing
pub mod Rule
pub mod Ordered
pub mod Either
pub mod Eithers
pub mod Kept
pub mod Placings
pub mod Orders
