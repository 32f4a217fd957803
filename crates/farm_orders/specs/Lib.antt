-- How the orders of a run, or a mark and its orders, are read from the desk.
pub mod Faults
pub mod Given
pub mod Reading
pub mod Reasons
pub mod Marked
