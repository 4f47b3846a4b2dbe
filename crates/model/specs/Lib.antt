pub mod Networks
pub mod Runs
pub mod Promises
pub mod Examples
