mod Joined
mod Combined
