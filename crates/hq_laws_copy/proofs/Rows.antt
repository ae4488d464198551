mod Values
mod Rows
pub mod Answers
