pub mod Blocks
pub mod Coded
pub mod Encoded
pub mod Memory
pub mod Step
pub mod Stands
