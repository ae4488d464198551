mod Worked
mod Renaming
pub mod Clean
pub mod Runs
mod Scopes
mod Filters
mod Exempt
mod Wanted
mod Chains
mod Sorts
mod Lists
pub mod Alike
pub mod Permitted
mod Folds
mod OneRow
mod Fields
