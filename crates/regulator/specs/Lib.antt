pub mod Regulators
