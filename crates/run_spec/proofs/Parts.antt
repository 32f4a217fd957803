-- A run in two parts, and its mark.
pub mod LongerLines
mod Cut
pub mod Joined
pub mod Marks
