-- Lemmas on the frames of calls.
mod Shapes
mod Effective
mod Legs
mod Lines
mod Calls
mod Runs
