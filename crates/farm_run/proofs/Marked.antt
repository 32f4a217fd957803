-- A run that is marked, and one that is resumed at a mark.
pub mod Calls
mod Numbers
pub mod Resumption
pub mod Parts
