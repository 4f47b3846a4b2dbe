pub mod Masks
pub mod Plans
