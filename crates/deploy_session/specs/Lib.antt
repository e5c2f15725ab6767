pub mod Known
pub mod Recording
pub mod Shown
