pub mod Chains
pub mod Lowest
