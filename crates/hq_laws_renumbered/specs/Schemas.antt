pub mod Blank
pub mod SchemaOver
