mod Lists
mod Looks
mod Known
mod Nodes
mod Rules
mod Values
mod Overlaps
pub mod Faults
pub mod Coerced
pub mod Introspected
