mod Grids
mod Rows
