-- The lines of marks and their numbers, how long they are, what a front of a text tells of them, and how two lists of
-- calls differ.
mod Fields
mod Rising
mod Lines
mod Fronts
mod Reading
mod Differences
mod Short
