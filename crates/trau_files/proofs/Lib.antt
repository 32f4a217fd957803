-- Lemmas on files that are open, and on which line has which file.
mod Apart
mod Cases
mod Counting
mod Faults
mod Freeing
mod Gaining
mod Honest
mod Knowing
pub mod Leaving
mod Moves
mod OnlyRead
mod Searching
mod BayLaws
mod Tries
mod Unwriting
