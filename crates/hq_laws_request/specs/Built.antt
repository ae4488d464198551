pub mod Refusing
pub mod Builds
pub mod Faults
