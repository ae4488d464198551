mod ReachLemmas
mod Counting
pub mod Joining
pub mod Sifting
