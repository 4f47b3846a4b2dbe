pub mod Pastes
pub mod Widths
