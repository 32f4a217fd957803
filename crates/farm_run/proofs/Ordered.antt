-- One more order: the board, the farm and the definition of the run go on together.
pub mod Matching
pub mod Due
mod Changing
pub mod Following
pub mod Doing
