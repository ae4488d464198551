pub mod Formed
pub mod Built
