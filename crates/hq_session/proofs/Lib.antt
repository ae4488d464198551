mod Ends
mod Tokens
mod Passed
mod Added
