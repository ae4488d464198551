pub mod Renumbering
pub mod Copies
