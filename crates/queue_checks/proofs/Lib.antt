pub mod Chains
pub mod Good
