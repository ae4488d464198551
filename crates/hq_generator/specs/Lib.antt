pub mod Words
pub mod Tables
pub mod Metadata
pub mod Rows
pub mod Requests
pub mod Lines
