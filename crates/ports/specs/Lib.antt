pub mod Lanes
pub mod Kinds
pub mod Rows
pub mod Tables
pub mod Laws
pub mod Adds
