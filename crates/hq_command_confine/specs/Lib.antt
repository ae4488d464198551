pub mod Confining
pub mod Said
pub mod Laws
pub mod Shown
