-- What a run leaves on the lines, to its end or where want of memory cuts it short.
pub mod Being
pub mod Gaining
pub mod Sides
pub mod Stopping
pub mod Cutting
pub mod Telling
