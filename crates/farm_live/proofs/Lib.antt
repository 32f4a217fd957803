mod Books
mod Weights
mod Records
mod Slots
mod Splits
mod Taking
mod Turning
mod Rows
pub mod NewFarm
mod Joining
mod Wholes
