mod WrittenParts
pub mod Catalogs
mod EachDue
