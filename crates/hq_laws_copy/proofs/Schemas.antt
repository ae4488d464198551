mod Types
mod Shown
mod Links
pub mod Answers
