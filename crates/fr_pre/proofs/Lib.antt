mod Floors
mod Shifted
pub mod Run
mod Chain
