pub mod Each
mod Failing
pub mod Listing
pub mod Shifting
