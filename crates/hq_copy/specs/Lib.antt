pub mod Refused
pub mod Granted
pub mod Files
pub mod Direct
pub mod Lists
pub mod Redacting
pub mod Plans
