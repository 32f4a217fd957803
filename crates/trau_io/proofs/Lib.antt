-- Lemmas on operations of the outside.
mod Filling
pub mod Given
mod Moves
mod Runs
pub mod Tables
