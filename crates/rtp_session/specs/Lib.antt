pub mod Counts
pub mod Incoming
pub mod Datagram
pub mod Playing
pub mod Outgoing
