mod Ended
mod Own
mod Shown
