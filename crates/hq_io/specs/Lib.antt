pub mod Causes
pub mod Disks
pub mod Folder
pub mod Links
pub mod Streams
