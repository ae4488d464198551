mod Plain
mod Writable
pub mod Answers
