mod Answers
mod Filters
mod Apart
mod Alike
mod Plain
mod Running
mod Worked
