pub mod Access
pub mod Leads
pub mod Differ
pub mod Roles
