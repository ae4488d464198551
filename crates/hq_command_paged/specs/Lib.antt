pub mod Disks
pub mod Serving
