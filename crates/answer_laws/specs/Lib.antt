pub mod Marked
pub mod Steps
pub mod Why
