pub mod Frames
pub mod Next
pub mod Log
pub mod Codes
