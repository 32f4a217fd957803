mod Reading
mod Searching
pub mod Lines
pub mod Shifts
mod Once
mod Rows
mod Alike
mod Longer
mod Waits
mod Periods
mod Said
mod Every
mod Period
mod SoFar
mod Following
mod Ending
