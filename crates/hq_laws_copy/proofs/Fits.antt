pub mod Texts
pub mod Held
mod Unkept
mod Extras
pub mod Columns
mod Catalogs
pub mod Entries
mod Named
mod Metas
pub mod Answers
