pub mod Sorted
pub mod Schema
pub mod Look
pub mod Fixed
pub mod Parts
