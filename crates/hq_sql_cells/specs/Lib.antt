pub mod View
pub mod Keys
pub mod Seen
pub mod Best
pub mod Totals
pub mod Fronts
