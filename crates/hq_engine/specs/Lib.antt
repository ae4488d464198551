pub mod Kept
pub mod Replies
pub mod Asking
pub mod Failures
pub mod Statements
pub mod Stating
pub mod Engines
pub mod Laws
