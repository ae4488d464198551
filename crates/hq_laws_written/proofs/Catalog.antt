pub mod Lists
pub mod Places
pub mod Clean
pub mod Shapes
pub mod Tests
pub mod Resolving
pub mod Whole
mod Worked
