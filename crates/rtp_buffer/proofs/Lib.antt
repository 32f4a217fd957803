mod Known
mod Slots
mod Histories
mod Rows
mod Pacing
