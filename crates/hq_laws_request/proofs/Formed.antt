mod Items
mod BuildingSteps
mod Permitted
mod Standing
mod Places
mod Sources
mod Conditions
mod Sorting
mod Naming
mod Listing
mod Knowing
mod Kept
mod Summing
mod Looking
mod Rows
mod Roots
mod Binding
mod Collecting
mod Weakened
pub mod Building
mod Worked
mod BodyNest
mod CoercedNest
pub mod MadeFormed
mod Steps
mod VariablesNest
