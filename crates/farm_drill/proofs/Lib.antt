-- Lemmas on draws, lines and orders.
mod Drawing
mod Octets
pub mod Setting
mod Texts
mod Spelling
