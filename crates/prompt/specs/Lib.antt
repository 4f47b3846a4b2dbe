pub mod Wires
pub mod Paces
pub mod WireLaws
