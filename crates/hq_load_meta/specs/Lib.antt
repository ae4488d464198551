pub mod Linked
pub mod Related
pub mod Permitted
pub mod Sound
pub mod Inheriting
pub mod Reading
