pub mod Stored
pub mod Learned
pub mod Keyed
pub mod RowTests
