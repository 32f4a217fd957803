mod Pieces
mod Counted
mod Past
