-- Reads and writes: single operations, whole transfers, and lines in memory; how texts name a line.
pub mod Desks
pub mod Lines
pub mod Memory
pub mod Indices
pub mod Texts
pub mod Transfer
