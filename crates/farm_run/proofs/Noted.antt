-- What is noted of a run.
pub mod Noting
mod Opened
pub mod Orders
pub mod Rounds
pub mod Truly
pub mod Latest
mod Bridges
mod Bridging
pub mod Openings
pub mod Knowing
