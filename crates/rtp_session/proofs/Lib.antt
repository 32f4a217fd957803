mod Judged
mod Taken
mod Written
