-- The channels of a time slot, and the commands that cut it and put it together.
pub mod Channels
pub mod Lines
pub mod Merges
pub mod Pairs
pub mod Squares
pub mod Splits
pub mod Tools
