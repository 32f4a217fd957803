pub mod Replay
pub mod Lines
