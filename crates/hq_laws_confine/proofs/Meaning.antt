mod Lists
mod Orders
mod Gather
mod Tables
mod Keys
mod Pairs
mod Agreement
mod Formed
mod Related
mod Masks
mod Written
mod Links
mod Means
mod InOrder
pub mod Theorem
