pub mod BitList
pub mod Octets
pub mod Appended
pub mod Joined
mod Products
