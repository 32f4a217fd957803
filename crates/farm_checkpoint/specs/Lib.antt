-- What the mark of a checkpoint is, its text, and how two runs differ by it.
pub mod Marks
pub mod Text
pub mod Fields
pub mod Reading
pub mod Differences
