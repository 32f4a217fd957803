pub mod Lists
mod Tables
mod Spans
pub mod Orders
pub mod Boards
mod Worked
