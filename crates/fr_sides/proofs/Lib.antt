mod Received
mod Sent
pub mod Heard
pub mod OneHeard
mod Down
mod Again
