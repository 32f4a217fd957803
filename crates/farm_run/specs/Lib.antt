-- The run of a farm.
pub mod Match
pub mod Pace
pub mod Ending
pub mod Facts
pub mod Noted
pub mod Runs
pub mod Standing
pub mod Fronts
pub mod Clock
pub mod Outgoing
pub mod Stages
pub mod Orders
pub mod Marking
pub mod Saving
pub mod Resuming
pub mod Parts
