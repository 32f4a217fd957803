pub mod Yields
pub mod Periods
pub mod Memory
pub mod Step
pub mod Stands
