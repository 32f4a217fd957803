-- What orders are, and which texts spell them.
pub mod Lists
pub mod Grammar
pub mod Text
pub mod Reasons
pub mod Places
