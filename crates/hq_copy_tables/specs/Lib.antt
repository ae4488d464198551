pub mod Views
pub mod Originals
pub mod Linked
