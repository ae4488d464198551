mod Members
mod Commas
pub mod Texts
