pub mod Fields
pub mod Pending
pub mod Waits
pub mod Replies
pub mod Connections
pub mod Serving
