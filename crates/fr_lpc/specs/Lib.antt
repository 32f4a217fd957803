pub mod Autocorrelation
pub mod Ratios
pub mod Reflection
pub mod Scaling
