-- Files in memory, and that a folder of them is honest.
pub mod Honest
pub mod Leaves
pub mod Memory
pub mod Sizes
