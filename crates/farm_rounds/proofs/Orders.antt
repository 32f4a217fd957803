-- What orders make of the calls.
pub mod InPlace
pub mod Acts
pub mod Partners
pub mod Histories
pub mod ByNumber
pub mod Open
pub mod Close
pub mod Changed
pub mod Set
