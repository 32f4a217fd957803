-- What the files of an honest folder hold, operation by operation.
pub mod First
pub mod Known
mod Opening
pub mod Reads
mod Tries
pub mod Writes
mod Changing
pub mod Noting
pub mod OnPaper
