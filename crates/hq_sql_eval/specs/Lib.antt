pub mod Filtered
pub mod Narrowed
