-- Spelling a number, and splitting a text at an octet.
pub mod Number
pub mod Splits
