-- The report of a run.
mod Finishing
pub mod Rows
pub mod Reporting
pub mod Rising
pub mod LastEnds
