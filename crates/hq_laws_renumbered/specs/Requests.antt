pub mod OfRole
pub mod Alike
pub mod Laws
