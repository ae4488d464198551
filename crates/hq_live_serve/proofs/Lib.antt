pub mod Held
pub mod LineLemmas
pub mod Runs
