pub mod Variables
pub mod Sources
pub mod Faults
pub mod Choice
pub mod Coercion
pub mod Required
pub mod Due
pub mod Given
