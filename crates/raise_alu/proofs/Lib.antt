pub mod Chained
pub mod Counted
pub mod Enough
pub mod Near
pub mod Same
pub mod Steps
pub mod Waited
