pub mod Layout
pub mod Refusals
pub mod Chunks
pub mod Searches
