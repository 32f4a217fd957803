pub mod Draws
pub mod Muting
