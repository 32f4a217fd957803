-- Lemmas on channels.
mod Channels
mod Ending
mod Gaining
mod Groups
mod Merged
mod Pieces
mod Merging
mod Last
mod Parts
mod Reading
mod Splitting
mod Taking
mod Lanewise
mod Vectors
