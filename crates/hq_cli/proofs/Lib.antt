pub mod Commands
pub mod Taken
pub mod Numbers
mod Authors
