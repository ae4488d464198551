pub mod Types
pub mod Added
pub mod Repeats
