mod Means
mod Counters
pub mod Sending
