mod Woven
mod Showing
pub mod Crashed
pub mod Runs
mod Swept
mod Refused
pub mod Kept
mod Servers
mod Opened
pub mod Across
mod Restarts
