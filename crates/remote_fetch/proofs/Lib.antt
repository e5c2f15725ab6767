pub mod HeadLemmas
pub mod ChunkLemmas
pub mod Unique
pub mod Reaching
pub mod Fair
pub mod Fetches
pub mod Causes
