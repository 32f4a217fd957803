-- Lemmas on listings.
mod Periods
pub mod Whole
