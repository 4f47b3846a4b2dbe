pub mod Orders
pub mod Chains
