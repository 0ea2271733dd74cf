pub mod Heads
pub mod Points
