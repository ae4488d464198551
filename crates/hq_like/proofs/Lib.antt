pub mod AsRead
pub mod Steps
pub mod Letters
pub mod Searches
pub mod Parted
