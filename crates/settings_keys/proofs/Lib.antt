pub mod Fits
pub mod Items
