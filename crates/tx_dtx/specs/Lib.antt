pub mod Stretch
pub mod SilenceDescriptor
pub mod Sent
pub mod Memory
pub mod Step
pub mod Stands
pub mod Flat
