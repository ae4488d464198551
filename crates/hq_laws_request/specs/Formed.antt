pub mod ObjectsNest
pub mod Built
pub mod Formed
