pub mod Positions
pub mod Links
pub mod Ordered
pub mod Pages
pub mod ChosenKeys
