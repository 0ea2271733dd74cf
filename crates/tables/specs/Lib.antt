pub mod Model
pub mod Valid
pub mod Contents
pub mod Plan
pub mod Found
