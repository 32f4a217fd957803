-- The calls of a farm by their numbers, and what orders and rounds do to them.
pub mod Numbers
pub mod Calls
pub mod Opens
pub mod Memory
pub mod Acts
pub mod Failed
pub mod Opened
pub mod Histories
pub mod Rounds
pub mod Settling
pub mod Working
pub mod RoundHistories
pub mod Finishing
pub mod Sums
