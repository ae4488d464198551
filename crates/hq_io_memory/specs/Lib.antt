pub mod Calls
pub mod Contents
pub mod Loading
pub mod LinkRow
pub mod Lending
