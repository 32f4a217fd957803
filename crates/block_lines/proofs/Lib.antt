-- Lemmas on runs of machines.
pub mod Alone
pub mod Blocks
pub mod Ending
pub mod Making
pub mod Outputs
mod Putting
mod Rounds
mod Writing
