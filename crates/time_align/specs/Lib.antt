pub mod Shift
pub mod Memory
pub mod Step
pub mod History
pub mod Stands
