mod Ordered
mod Rounds
mod Worked
pub mod Listed
mod Told
mod Noted
pub mod Clocks
pub mod Lines
mod Reported
pub mod Marked
