mod Drawn
mod Falls
mod Rows
pub mod Mixing
