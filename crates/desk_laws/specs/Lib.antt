pub mod Back
pub mod Answered
pub mod Fetched
