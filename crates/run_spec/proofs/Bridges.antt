-- Bridges of a run, and their spans.
pub mod Standing
pub mod NewOrder
pub mod Apart
pub mod Later
pub mod Over
pub mod Covered
pub mod Latest
