pub mod Numbers
pub mod CellOrders
mod Lists
pub mod Joining
pub mod Names
pub mod Fitting
pub mod Tests
pub mod Places
pub mod Steps
pub mod Firsts
mod Worked
pub mod Together
pub mod Permitting
