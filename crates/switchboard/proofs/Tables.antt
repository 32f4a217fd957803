-- The table: who is open, and who is bridged with whom, before and after a change.
pub mod Sizes
pub mod Known
pub mod Calls
pub mod Bridged
pub mod Parted
pub mod Lost
pub mod Pairs
pub mod Partners
pub mod Changes
