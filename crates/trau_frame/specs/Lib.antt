pub mod Role
pub mod Frame
pub mod UpFrame
pub mod UpBits
pub mod DownFrame
pub mod Relay
pub mod Match
