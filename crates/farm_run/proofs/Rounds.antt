-- A round of periods, by the definition of the run: what is taken, what each call has had behind it, and which calls
-- end.
pub mod Taken
pub mod Outcome
pub mod Histories
pub mod Open
pub mod Partners
pub mod Finished
mod Octets
pub mod Ends
mod Giving
pub mod Taking
