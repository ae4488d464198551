pub mod Field
pub mod Node
pub mod Each
pub mod Refused
pub mod Found
pub mod Configured
pub mod Tracked
pub mod Top
