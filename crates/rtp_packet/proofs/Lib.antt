mod Facts
mod Laid
mod Plain
mod Taken
