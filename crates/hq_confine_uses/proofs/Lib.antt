pub mod Worst
pub mod Walks
pub mod Keys
pub mod Sorts
pub mod Stacked
pub mod Places
