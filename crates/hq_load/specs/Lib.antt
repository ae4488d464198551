pub mod Line
pub mod Wrote
pub mod Told
pub mod Directory
pub mod Loading
pub mod Faults
