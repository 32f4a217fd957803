pub mod Encoding
pub mod Pulses
pub mod Quantisation
pub mod Scale
pub mod Selection
pub mod Weighting
