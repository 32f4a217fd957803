-- A round as the farm works it, beside that.
pub mod Round
pub mod Facts
pub mod Making
pub mod Settled
mod Portions
mod Calls
mod Past
pub mod Tallies
pub mod Short
pub mod Sums
pub mod Clock
pub mod Board
pub mod Written
pub mod Lines
