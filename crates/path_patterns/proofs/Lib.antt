pub mod Bad
pub mod Splits
pub mod Verdicts
