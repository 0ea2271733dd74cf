pub mod Solo
pub mod Points
