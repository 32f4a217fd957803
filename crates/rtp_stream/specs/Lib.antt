pub mod Places
pub mod Sources
pub mod Stream
pub mod Payload
