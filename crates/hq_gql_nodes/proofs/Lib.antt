pub mod Lesser
pub mod Grown
pub mod Walks
pub mod Lists
pub mod Nodes
mod Marking
pub mod SameMembers
