mod Worked
pub mod Views
pub mod Columns
pub mod Listed
pub mod Plain
pub mod Conjunctions
pub mod Next
