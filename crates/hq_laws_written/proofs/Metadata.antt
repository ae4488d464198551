pub mod Lists
pub mod Fitting
pub mod Parts
pub mod Columns
pub mod Named
pub mod Related
pub mod Permitted
pub mod Repeats
pub mod Clean
pub mod Top
pub mod Whole
mod Worked
