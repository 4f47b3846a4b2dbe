pub mod Lines
pub mod LaneSteps
pub mod RowSteps
pub mod TableSteps
pub mod Additions
