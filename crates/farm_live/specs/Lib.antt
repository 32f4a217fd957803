pub mod Book
pub mod Whole
pub mod Step
pub mod Slot
pub mod Turns
pub mod Live
pub mod Closing
