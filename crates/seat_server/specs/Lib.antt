pub mod Gained
pub mod Rules
pub mod Passages
