pub mod CostExamples
pub mod Counting
pub mod Examples
pub mod Giving
pub mod Guarding
pub mod Guards
pub mod Making
pub mod Reaching
