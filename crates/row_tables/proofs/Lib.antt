pub mod Places
pub mod Rising
pub mod Kept
pub mod Applied
pub mod Latest
pub mod OneOf
pub mod Leavings
