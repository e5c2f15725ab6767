pub mod Drafted
pub mod Kept
pub mod Placed
pub mod Undone
