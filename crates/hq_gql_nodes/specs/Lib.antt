pub mod Known
pub mod Nodes
pub mod Least
pub mod Names
pub mod Reach
pub mod Marks
pub mod Fragments
pub mod Faults
