pub mod Crashes
pub mod Found
pub mod Runs
pub mod Stores
pub mod Handed
