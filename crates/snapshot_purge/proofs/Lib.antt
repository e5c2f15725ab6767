pub mod AgeLemmas
pub mod Counts
pub mod Found
