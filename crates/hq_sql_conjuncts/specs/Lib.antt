pub mod Closed
pub mod Alike
pub mod Named
pub mod Weight
pub mod Conjuncts
pub mod Split
