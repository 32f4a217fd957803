pub mod Memory
pub mod Receiving
pub mod Sending
pub mod Octets
pub mod CodeWord
pub mod Uplink
pub mod Downlink
