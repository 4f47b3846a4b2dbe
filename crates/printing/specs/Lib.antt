pub mod Faults
pub mod Prints
pub mod Lines
pub mod Sheets
