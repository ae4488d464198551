pub mod RequestForm
pub mod Reading
pub mod Validation
pub mod Operation
pub mod Request
pub mod Made
