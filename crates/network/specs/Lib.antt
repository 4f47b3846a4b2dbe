pub mod Sources
pub mod Faults
pub mod Views
pub mod Makes
pub mod Offers
pub mod Questions
