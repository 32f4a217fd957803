-- Lists of executed orders: one more, its reply, and what it changes.
pub mod Steps
pub mod GivenLaws
pub mod Replies
pub mod Opened
pub mod Parted
pub mod Moves
pub mod Runs
pub mod InRange
pub mod OneMore
