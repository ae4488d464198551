pub mod Adding
pub mod Cuts
pub mod Excerpts
pub mod Marks
pub mod Repeated
pub mod Steps
