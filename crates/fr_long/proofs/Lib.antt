mod Blocks
pub mod Histories
mod Lags
mod Lanes
pub mod Predictions
mod Rows
mod Tops
mod Words
