pub mod Fields
pub mod Sessions
pub mod Hook
pub mod Secret
