mod Refusals
mod Steps
