pub mod Latests
