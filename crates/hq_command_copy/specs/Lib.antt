pub mod Causes
pub mod Copying
