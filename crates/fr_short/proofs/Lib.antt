mod Each
mod Behind
mod Runs
mod Parts
mod Over
mod Passes
mod BySection
