pub mod Asker
