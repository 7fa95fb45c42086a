pub mod Indexed
pub mod Waits
