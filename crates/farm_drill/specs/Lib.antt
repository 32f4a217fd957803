-- The lines and orders of a drill, and hostile uplinks.
pub mod Draws
pub mod Uplink
pub mod Lines
pub mod Orders
pub mod Hostile
