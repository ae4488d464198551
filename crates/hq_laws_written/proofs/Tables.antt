mod Records
mod Closed
mod Front
mod Fields
mod Headers
mod Rows
pub mod Whole
mod Worked
