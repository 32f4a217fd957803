pub mod Places
pub mod Drain
mod Orders
mod Work
pub mod Plan
mod Fill
pub mod Failed
