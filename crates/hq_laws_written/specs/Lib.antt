pub mod Json
pub mod Tables
pub mod Catalog
pub mod Metadata
