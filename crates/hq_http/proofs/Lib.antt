pub mod Rooms
pub mod Waits
pub mod Responses
pub mod Served
pub mod Steps
pub mod Weaker
pub mod Runs
