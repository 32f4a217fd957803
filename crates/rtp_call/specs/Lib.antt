pub mod Hearing
pub mod Playing
pub mod Sending
pub mod Call
