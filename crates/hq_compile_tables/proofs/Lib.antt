pub mod Looks
pub mod Loops
pub mod Members
