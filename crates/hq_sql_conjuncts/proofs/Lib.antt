pub mod Depends
pub mod Conjuncts
pub mod Weights
pub mod Splits
pub mod Beside
