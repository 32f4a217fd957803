pub mod Num
pub mod Random
pub mod Weights
