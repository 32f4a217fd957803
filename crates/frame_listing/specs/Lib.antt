-- What a listing prints.
pub mod Machine
pub mod Texts
