pub mod Views
pub mod Fits
pub mod Rows
pub mod Schemas
