pub mod Turning
pub mod Seated
pub mod Histories
pub mod Ending
