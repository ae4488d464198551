pub mod Fronts
pub mod Found
