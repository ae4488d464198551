pub mod Grouped
pub mod Placed
pub mod Selected
pub mod Texts
pub mod Listed
pub mod TableRows
pub mod Elements
