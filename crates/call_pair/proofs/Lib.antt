mod Turns
mod Lengths
pub mod Places
pub mod Octets
mod Steps
pub mod RunsAlone
pub mod Runs
mod Joined
pub mod Sequences
pub mod Phased
mod BridgeEnd
mod UplinkRuns
mod DownlinkRuns
mod Telling
mod Lent
pub mod Rounded
