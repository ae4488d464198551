pub mod Alike
mod Among
mod Touching
pub mod Weaken
mod Fitting
mod Granting
mod WellFormed
pub mod Blog
pub mod Worked
mod Inherited
mod Reaching
