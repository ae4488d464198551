pub mod Chunks
pub mod Grids
pub mod Keys
pub mod Places
pub mod Direct
pub mod Indexes
pub mod Repeats
pub mod Whole
