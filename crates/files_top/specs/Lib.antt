-- What commands leave in the files of a folder.
pub mod OnDisk
pub mod Promises
pub mod RunOnDisk
