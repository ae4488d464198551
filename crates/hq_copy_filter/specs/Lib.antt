pub mod Lent
pub mod Kept
pub mod Pinned
pub mod Equal
