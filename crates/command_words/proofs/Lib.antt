-- Lemmas on words.
pub mod Asking
mod Following
mod Living
mod Matched
pub mod Naming
