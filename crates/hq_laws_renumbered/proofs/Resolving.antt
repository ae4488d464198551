mod Alike
pub mod Answers
