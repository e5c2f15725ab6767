pub mod Fault
pub mod Matching
pub mod Pattern
pub mod Segments
pub mod Verdict
