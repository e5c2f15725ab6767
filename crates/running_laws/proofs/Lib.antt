mod Seen
mod Spared
mod Longer
mod Stood
mod Puts
mod Commits
mod Keeping
mod Later
