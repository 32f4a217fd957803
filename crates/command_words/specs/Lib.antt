-- What words ask for.
pub mod Asking
pub mod Drill
pub mod Follow
pub mod Live
pub mod Options
pub mod Run
pub mod Slots
pub mod Words
