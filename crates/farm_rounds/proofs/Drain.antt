-- The end of a round: outgoing lines, calls that go on, tallies of those that end, and sums.
pub mod GoingOn
pub mod Farm
pub mod Sums
pub mod Kept
pub mod Tallies
