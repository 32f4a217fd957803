pub mod Blocks
pub mod Decoded
pub mod Truncation
pub mod Memory
pub mod Step
pub mod Stands
