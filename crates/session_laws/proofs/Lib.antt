pub mod Counting
pub mod Ending
pub mod Keeping
pub mod Lasting
pub mod Reached
