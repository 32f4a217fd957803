mod Rows
pub mod Steps
mod Missed
mod Anchors
mod LookBack
mod Runs
mod Moving
