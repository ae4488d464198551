pub mod Asked
pub mod Typed
pub mod Answered
