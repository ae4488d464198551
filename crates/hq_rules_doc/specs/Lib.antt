pub mod NodeRules
pub mod Operations
pub mod RootFields
pub mod Subscriptions
pub mod First
