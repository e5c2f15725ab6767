pub mod Ended
pub mod Limits
