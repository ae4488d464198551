mod Items
mod BuildingSteps
mod Permitted
mod Standing
mod Places
mod Unviolated
mod Reaching
mod Values
mod Compatible
mod Literals
mod Usage
mod Numbered
mod Collecting
mod Shapes
mod Lawful
mod Scalars
mod Filters
mod Orders
mod Arguments
mod Walking
mod Binding
pub mod Law
mod Constants
pub mod Requests
