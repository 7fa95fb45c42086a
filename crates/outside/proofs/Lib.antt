pub mod Lasting
pub mod LastBytes
pub mod Wrote
pub mod Counting
pub mod Listing
pub mod Standing
