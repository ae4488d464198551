mod SummarySelects
pub mod SortLists
mod Steps
mod Keys
mod Selects
