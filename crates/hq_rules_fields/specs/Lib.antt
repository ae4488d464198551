pub mod Literals
pub mod NodeRules
pub mod First
