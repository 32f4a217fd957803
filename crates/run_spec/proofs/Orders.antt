-- What orders make of a run so far.
pub mod Executed
pub mod Shown
pub mod OpenCalls
pub mod NewOrder
pub mod Settings
