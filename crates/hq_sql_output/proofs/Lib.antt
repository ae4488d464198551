pub mod Outputs
pub mod Sorted
pub mod Objects
pub mod Pieces
pub mod Groups
pub mod TableCells
pub mod ElementTexts
