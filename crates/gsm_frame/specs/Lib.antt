pub mod Packed
pub mod Pair
