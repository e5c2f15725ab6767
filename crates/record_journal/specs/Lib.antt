pub mod Journal
pub mod Given
