pub mod Reading
pub mod Signs
pub mod Places
pub mod Backs
pub mod Segments
pub mod Parts
pub mod Matchers
