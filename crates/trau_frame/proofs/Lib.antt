pub mod Places
pub mod RowPlaces
mod Copied
pub mod ReadRows
pub mod WrittenRows
pub mod Again
mod Words
mod Relayed
pub mod UpAgain
pub mod Matches
mod Apart
