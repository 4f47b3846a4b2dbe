pub mod Writes
pub mod Puts
pub mod Offers
pub mod Numbers
pub mod Makes
pub mod Levels
