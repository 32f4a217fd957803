-- The board before and after an order, and after an end.
pub mod Lists
pub mod States
pub mod Changes
pub mod Whole
