mod Periods
mod Recorded
mod Lines
mod Runs
mod Worked
