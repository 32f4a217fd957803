-- A run from clock to clock.
pub mod Reach
pub mod Reaching
pub mod Stepping
pub mod Meeting
mod Summing
pub mod First
pub mod Idle
pub mod Last
