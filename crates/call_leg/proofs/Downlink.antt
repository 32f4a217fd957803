-- The downlink half: the frames that it makes, and those that wait.
mod Inside
mod Shifts
mod Queue
pub mod Enter
pub mod Numbered
pub mod Period
pub mod Stretch
pub mod Step
pub mod Bridges
pub mod Bounds
pub mod Stepping
pub mod Laws
pub mod Reloaded
