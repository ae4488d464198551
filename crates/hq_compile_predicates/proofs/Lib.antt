mod Remotes
