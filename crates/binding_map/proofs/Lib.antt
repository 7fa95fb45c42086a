mod Lookups
mod Joined
mod Marked
mod Least
mod Numbered
mod Whole
pub mod Inhabited
mod Single
mod DefaultBound
mod RegisterNames
mod PushWords
pub mod LineParts
pub mod TextRules
pub mod Placed
pub mod Covered
