-- What a round reads from a call's lines, what it writes to them, and where the call ends in it.
pub mod Memory
pub mod Rounds
pub mod Portions
pub mod Shifts
pub mod Transfer
