pub mod Texts
pub mod Streams
pub mod Output
pub mod Run
pub mod Parts
