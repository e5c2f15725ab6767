pub mod Chunks
pub mod Exchanged
pub mod Fetching
pub mod Got
pub mod Heads
pub mod Replies
