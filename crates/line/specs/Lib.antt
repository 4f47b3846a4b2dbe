pub mod Ring
pub mod Queues
