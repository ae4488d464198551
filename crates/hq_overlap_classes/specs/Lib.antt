pub mod Classes
pub mod Disputes
pub mod Noting
