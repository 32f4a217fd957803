mod Carried
mod Moved
mod Pauses
