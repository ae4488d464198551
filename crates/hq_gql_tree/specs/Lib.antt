pub mod Rules
pub mod Values
pub mod Types
pub mod Selections
pub mod Documents
pub mod Nesting
pub mod View
