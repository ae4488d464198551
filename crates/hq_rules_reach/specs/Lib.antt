pub mod Spreads
pub mod Rises
pub mod Uses
pub mod Summaries
pub mod Variables
pub mod Fit
