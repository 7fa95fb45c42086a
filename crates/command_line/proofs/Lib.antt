pub mod Matches
pub mod Usage
