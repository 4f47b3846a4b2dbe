pub mod Keeps
pub mod Sums
pub mod Crossings
