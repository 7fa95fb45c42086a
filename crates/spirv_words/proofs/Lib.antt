pub mod Numbers
pub mod Texts
pub mod Steps
pub mod Small
pub mod Typed
pub mod Formed
