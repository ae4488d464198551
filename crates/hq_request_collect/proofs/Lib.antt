pub mod Less
pub mod Walks
pub mod NodeViews
pub mod Lists
pub mod Views
pub mod Grouped
pub mod Merged
pub mod Trees
pub mod Levels
pub mod Sizes
pub mod Kept
pub mod Differ
pub mod Enough
mod Worked
