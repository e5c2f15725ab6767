pub mod Shown
pub mod Runs
pub mod Restarted
pub mod Crashed
pub mod Worked
pub mod Kept
