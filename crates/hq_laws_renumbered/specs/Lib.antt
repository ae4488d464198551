pub mod Resolving
pub mod Schemas
pub mod Requests
