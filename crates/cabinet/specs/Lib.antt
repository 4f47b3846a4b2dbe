pub mod Faults
pub mod Model
pub mod Puts
pub mod Takes
pub mod Advances
pub mod Fresh
pub mod Wells
pub mod Drains
