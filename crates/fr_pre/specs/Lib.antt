pub mod Memory
pub mod Offsets
pub mod Preprocessing
pub mod Step
pub mod History
pub mod Stands
