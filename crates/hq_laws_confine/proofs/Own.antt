mod Same
mod Using
mod Places
mod Masked
mod Granted
pub mod Asks
