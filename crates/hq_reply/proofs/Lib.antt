mod Resolved
mod Roots
mod Texts
mod Told
