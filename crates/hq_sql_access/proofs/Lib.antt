pub mod NamedCells
pub mod RowsIn
pub mod Asked
pub mod Knowing
pub mod Loops
pub mod Besides
