mod Placing
mod Worked
mod Loops
