pub mod Loads
pub mod Walk
pub mod Standing
pub mod Undone
pub mod Added
pub mod Reloaded
pub mod Built
pub mod Crashes
