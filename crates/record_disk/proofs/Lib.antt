pub mod Moments
pub mod Recording
