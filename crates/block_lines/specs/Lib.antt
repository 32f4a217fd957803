-- What a block machine is, and what a command by one does.
pub mod Command
pub mod Machines
pub mod Runs
pub mod Step
