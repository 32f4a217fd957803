-- The lines that failed, and the list of them.
pub mod Tests
pub mod Counts
pub mod Boards
pub mod Round
pub mod Behind
