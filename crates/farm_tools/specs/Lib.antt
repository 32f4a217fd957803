-- What the tools make of blocks.
pub mod Machines
pub mod Made
