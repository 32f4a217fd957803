pub mod Whole
pub mod Sent
pub mod Handed
