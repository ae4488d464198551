pub mod Numbers
pub mod Heads
pub mod Text
pub mod HeadDecisions
