pub mod Digests
pub mod Hex
pub mod Sides
pub mod Worked
