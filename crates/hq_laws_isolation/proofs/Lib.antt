mod Views
mod Sessions
mod Worked
