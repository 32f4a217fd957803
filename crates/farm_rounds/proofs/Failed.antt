-- Lines that have failed.
pub mod Acts
pub mod Names
mod Once
pub mod Gained
pub mod Known
