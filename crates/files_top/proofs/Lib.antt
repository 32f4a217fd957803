-- From the lines of a trunk over files to the files.
mod Disks
mod Leaving
