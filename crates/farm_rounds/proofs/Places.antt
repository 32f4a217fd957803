-- The open calls by their places and by their numbers.
pub mod Boxes
pub mod Rising
pub mod Keyed
pub mod Placed
pub mod Empty
pub mod Numbered
pub mod Written
pub mod Found
pub mod Listed
