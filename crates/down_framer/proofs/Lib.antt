mod Lists
pub mod Timing
pub mod Store
pub mod Due
pub mod Waiting
pub mod Calls
mod Rings
mod History
pub mod Latest
pub mod Used
mod Asked
pub mod Carried
pub mod Numbers
pub mod FrameLaws
mod Rows
