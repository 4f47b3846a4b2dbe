pub mod Windows
pub mod Buckets
pub mod Ports
pub mod Hops
pub mod Systems
pub mod Laws
