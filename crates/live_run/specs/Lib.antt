-- A live drill.
pub mod Size
pub mod Posts
pub mod Posters
pub mod Whole
pub mod Text
