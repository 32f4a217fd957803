pub mod Eight
pub mod LaneSums
mod Remainders
mod Doubled
mod Halves
mod Rounded
pub mod LaneProducts
pub mod LaneDots
