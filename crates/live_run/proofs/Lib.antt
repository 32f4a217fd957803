-- Lemmas on live drills.
mod Moving
mod Drawn
mod Behind
mod Resting
mod Octets
mod Telling
mod Worked
mod Known
mod Ended
mod Lines
mod Callers
