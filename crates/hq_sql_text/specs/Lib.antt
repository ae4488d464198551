pub mod Reading
pub mod Readable
