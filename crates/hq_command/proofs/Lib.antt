mod Endings
mod Statings
mod Lines
