pub mod Texts
pub mod Printed
pub mod Ordered
pub mod Valued
pub mod Building
mod Worked
