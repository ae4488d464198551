pub mod Own
pub mod Rows
pub mod Same
pub mod Steps
pub mod Turns
