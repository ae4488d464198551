pub mod Requests
pub mod Holds
pub mod Reads
pub mod Laws
