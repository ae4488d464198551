pub mod Excerpts
pub mod Lines
pub mod NodeViews
pub mod Nodes
pub mod Reasons
pub mod Records
pub mod Words
