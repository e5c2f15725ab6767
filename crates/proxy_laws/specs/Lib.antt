pub mod Limits
pub mod Decisions
pub mod Replies
pub mod Asked
