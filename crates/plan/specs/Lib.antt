pub mod Limits
pub mod Rates
pub mod Faults
pub mod Checks
pub mod Files
