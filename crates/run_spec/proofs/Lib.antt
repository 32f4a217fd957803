pub mod Lists
pub mod Orders
pub mod Bridges
pub mod Periods
pub mod Ending
mod Worked
pub mod Frames
pub mod Parts
