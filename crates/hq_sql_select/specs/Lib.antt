pub mod Gathered
pub mod Selected
pub mod Costs
pub mod OwnColumns
