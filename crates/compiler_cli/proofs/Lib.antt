pub mod Arrived
pub mod Fronts
pub mod Parts
pub mod JobRules
pub mod Runs
pub mod Causes
pub mod Quiet
