-- Lemmas on what the tools make.
mod Machines
mod Making
