pub mod Documents
pub mod Dues
pub mod Rules
pub mod Walks
