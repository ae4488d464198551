pub mod RootKeys
pub mod Appended
