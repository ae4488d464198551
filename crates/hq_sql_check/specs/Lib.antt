pub mod Scopes
pub mod Fronts
pub mod Scans
pub mod Agree
