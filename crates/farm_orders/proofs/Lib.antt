-- Lemmas on reading the desk, and on the first bad line after a mark.
mod Told
mod Behind
