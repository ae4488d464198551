pub mod Numbered
pub mod Digits
pub mod Valid
