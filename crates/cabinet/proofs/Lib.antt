pub mod Searches
pub mod Fetches
pub mod Trays
pub mod Decisions
