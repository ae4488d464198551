pub mod RowSorts
pub mod Bodies
pub mod Starts
