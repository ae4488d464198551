mod Shown
mod OfRole
mod Alike
mod Bound
pub mod Requests
