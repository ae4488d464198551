pub mod Resolving
pub mod Schemas
pub mod Rules
pub mod Requests
