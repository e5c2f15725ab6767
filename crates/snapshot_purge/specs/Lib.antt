pub mod Ages
pub mod Shown
