pub mod Numbered
mod Maxima
