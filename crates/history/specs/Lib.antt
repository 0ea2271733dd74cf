pub mod Answer
pub mod Calls
pub mod History
pub mod Points
