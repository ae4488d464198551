pub mod Square
pub mod Numbers
mod Worked
pub mod Lists
pub mod Apart
pub mod Places
pub mod Found
pub mod Names
pub mod Reader
pub mod BySource
