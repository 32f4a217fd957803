pub mod Held
pub mod Begun
pub mod Settings
pub mod Turn
pub mod Packet
pub mod Reports
