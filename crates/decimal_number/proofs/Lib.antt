-- Lemmas on spelled numbers.
pub mod Numbers
mod Parsing
