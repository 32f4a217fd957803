pub mod Packet
pub mod Layout
pub mod Reception
