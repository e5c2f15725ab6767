pub mod Limits
pub mod Staying
pub mod Deciding
pub mod Planning
pub mod Answering
pub mod Again
mod Landings
pub mod Serving
