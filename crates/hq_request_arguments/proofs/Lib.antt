mod Different
mod Distinct
mod Objects
mod Named
