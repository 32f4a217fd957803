pub mod Kept
mod Scan
mod Found
pub mod Searched
pub mod Steps
mod Modes
pub mod Whole
pub mod Unique
pub mod Order
mod Existence
