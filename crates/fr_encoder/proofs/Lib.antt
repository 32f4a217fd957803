-- Lemmas on blocks and frames.
mod Coding
pub mod Frames
