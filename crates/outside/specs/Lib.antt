pub mod Causes
pub mod Told
pub mod Memory
pub mod Held
pub mod Quiet
pub mod System
pub mod Texts
