pub mod Grammar
pub mod Asked
pub mod Parsing
pub mod Pages
