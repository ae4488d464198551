mod Selected
mod ByName
mod Worked
mod Loops
