pub mod Asking
pub mod Answers
pub mod Steps
pub mod LiveRun
pub mod Runs
pub mod Memory
