pub mod Command
pub mod Job
pub mod Shown
pub mod Usage
pub mod JobExamples
