pub mod Meaning
pub mod Own
