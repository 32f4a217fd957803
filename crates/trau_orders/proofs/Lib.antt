-- The words of lines, the lines of texts, and what is known of orders that are read from them.
mod Words
mod OneOrder
pub mod TextLines
mod Reading
mod Beginnings
mod Wrong
mod Going
pub mod Known
mod FirstBad
