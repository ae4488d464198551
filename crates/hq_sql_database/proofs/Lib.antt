pub mod Names
pub mod Meant
