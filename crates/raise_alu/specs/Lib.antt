pub mod Computing
pub mod Waits
