-- Handed frames: carried, sent and lost ones.
mod Carried
mod Once
pub mod Known
pub mod Sent
