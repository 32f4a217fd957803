-- A round that is processed: its phases, its jobs, and what it adds to the calls.
pub mod Marks
mod Bridged
pub mod Phases
pub mod Portions
pub mod Halves
mod Finished
pub mod Histories
pub mod Outcome
pub mod Meeting
