-- Lemmas on drills.
mod Opened
mod Rooms
mod Lines
mod Quiet
mod Over
mod Telling
