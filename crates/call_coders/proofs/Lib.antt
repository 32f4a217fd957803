mod Step
mod Lines
