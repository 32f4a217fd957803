-- What a report is, and its text.
pub mod View
pub mod Lines
pub mod Numbered
pub mod Sums
