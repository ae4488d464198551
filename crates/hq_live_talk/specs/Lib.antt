pub mod Reading
pub mod Texts
pub mod Table
pub mod Talks
