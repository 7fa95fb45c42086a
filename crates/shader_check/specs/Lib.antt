pub mod Checked
pub mod Facts
pub mod Statements
pub mod FirstRefusals
pub mod Nested
pub mod Things
