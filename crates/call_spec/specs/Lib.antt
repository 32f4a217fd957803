pub mod Stretches
pub mod Call
pub mod Out
pub mod Down
pub mod History
pub mod Whole
