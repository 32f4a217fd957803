pub mod Mix
pub mod Noise
