-- The program's own part: what it does if it can't start.
pub mod Refusals
