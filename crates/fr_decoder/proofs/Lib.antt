-- Lemmas on frames and samples.
pub mod Frames
