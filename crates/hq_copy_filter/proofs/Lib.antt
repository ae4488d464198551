pub mod RowCells
pub mod Orders
pub mod Rows
pub mod Tables
pub mod Ands
