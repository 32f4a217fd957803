pub mod Clamped
pub mod Eight
pub mod Fill
pub mod Fitting
pub mod Greatest
mod LeftShifts
pub mod Lists
pub mod Mapped
pub mod Weights
