pub mod Columns
pub mod Tree
pub mod View
pub mod Word
pub mod Spelling
pub mod Meaning
pub mod Form
pub mod WellFormed
