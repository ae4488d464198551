pub mod Heads
pub mod Groups
pub mod Exploring
pub mod Walk
