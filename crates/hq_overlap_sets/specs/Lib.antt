pub mod Literals
pub mod Shapes
pub mod Sets
pub mod Pairs
pub mod Together
pub mod Places
pub mod Rows
