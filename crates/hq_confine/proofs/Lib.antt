pub mod Exempt
pub mod Granted
pub mod Joins
pub mod Parts
pub mod Small
pub mod Yes
