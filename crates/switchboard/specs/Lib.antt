-- The board's rules, over the whole list of executed orders; the board as contracts see it; its table.
pub mod Calls
pub mod Bridges
pub mod Replies
pub mod State
pub mod Runs
pub mod Ends
pub mod Rows
pub mod Stands
pub mod Open
