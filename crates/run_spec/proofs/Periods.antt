-- The periods of the calls of a run.
pub mod Settled
pub mod SoFar
pub mod Same
pub mod History
pub mod Next
