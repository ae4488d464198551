pub mod Links
pub mod LineLemmas
pub mod Runs
