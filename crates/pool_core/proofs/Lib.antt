mod Keeps
mod Start
mod Whole
mod Done
mod Rows
mod Pools
