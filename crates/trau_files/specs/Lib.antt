-- What is known of lines as files.
pub mod Claims
pub mod Contents
pub mod Disk
pub mod Files
pub mod Folder
pub mod Holds
pub mod Honest
pub mod OnPaper
pub mod Opening
pub mod Recordings
pub mod Bays
pub mod Streams
pub mod Tries
pub mod Trunk
