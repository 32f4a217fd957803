-- The spans of a call: when they start, and what they have for a period and for a frame.
pub mod OneItem
pub mod Items
mod Handed
pub mod Spans
pub mod Starts
pub mod Loads
pub mod Ordered
pub mod SoFar
