pub mod Steps
mod Items
mod Found
mod Given
mod Conditions
mod Sorting
mod Columns
mod Keys
mod Arguments
mod Known
mod Introspected
mod Summaries
mod Rows
pub mod Roots
