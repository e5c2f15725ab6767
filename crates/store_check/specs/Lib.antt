pub mod Lines
pub mod Checking
