pub mod LiveText
