-- Lemmas on files in memory.
mod Changing
mod Leaving
mod Operations
mod Places
mod Reading
