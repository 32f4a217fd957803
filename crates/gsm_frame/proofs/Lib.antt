mod Carried
mod Fit
pub mod OneFrame
mod OneNumber
mod PairBits
