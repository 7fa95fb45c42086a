pub mod Firsts
pub mod Inside
pub mod Tags
pub mod Soles
pub mod Built
pub mod Exactly
