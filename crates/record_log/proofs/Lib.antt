pub mod Reading
pub mod Parsing
pub mod Walking
pub mod Parts
pub mod Steps
pub mod Calls
pub mod Mending
