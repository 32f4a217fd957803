-- What the top function does.
pub mod Drill
pub mod Farm
pub mod FarmCauses
pub mod FarmEnded
pub mod Follow
pub mod FarmClean
pub mod Headline
pub mod Lines
pub mod Live
pub mod Promises
pub mod Resume
pub mod ResumeCauses
pub mod ResumeEnded
pub mod Save
pub mod Top
pub mod Words
