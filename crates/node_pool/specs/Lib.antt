pub mod Places
pub mod Pools
pub mod Regions
pub mod Keys
pub mod KeyTrees
