mod Relationships
mod FineConditions
pub mod Once
mod Distinct
mod FineRequests
mod LowRequests
mod FineGrants
mod TableRequests
mod Asked
pub mod Names
pub mod Sound
pub mod TextLiterals
pub mod Conditions
pub mod Extends
pub mod Bodies
pub mod Predicates
pub mod Masks
pub mod Selects
pub mod Sorts
pub mod Lists
pub mod Summaries
pub mod Meaning
pub mod Aliases
pub mod Forms
pub mod Shallow
pub mod CatalogTables
pub mod Scopes
pub mod TypedConditions
pub mod TypedJoins
pub mod TypedLists
pub mod TypedSummaries
pub mod Typed
pub mod WellFormed
mod Worked
