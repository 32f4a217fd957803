mod Energy
mod Over
mod Recursion
mod Scaled
mod Table
mod Dots
