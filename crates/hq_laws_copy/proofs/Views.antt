pub mod Viewed
pub mod Granted
pub mod Refused
pub mod Cells
pub mod Numbers
pub mod Order
pub mod Copy
pub mod Answers
mod Worked
