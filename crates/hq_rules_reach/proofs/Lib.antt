pub mod SameMembers
mod Falls
pub mod LeastBelow
mod VariableLemmas
mod ByNumber
mod Summing
mod AnySoFar
pub mod LeastSoFar
