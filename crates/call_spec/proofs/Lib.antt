pub mod Stretched
pub mod Ranges
pub mod Bridges
pub mod Reading
mod Yields
mod OutLine
pub mod Frames
pub mod Sending
mod PlacedFrames
pub mod DownLine
mod FirstPeriods
pub mod Whole
mod ByPeriod
mod Rows
