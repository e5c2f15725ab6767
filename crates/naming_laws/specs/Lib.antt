pub mod Answered
pub mod Cases
pub mod Kept
pub mod Left
pub mod Named
