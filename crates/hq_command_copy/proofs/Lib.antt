pub mod Ended
pub mod Back
