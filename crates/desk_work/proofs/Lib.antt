mod Shared
mod Visiting
mod Done
