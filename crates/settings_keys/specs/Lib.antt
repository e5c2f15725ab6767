pub mod Ids
pub mod Keys
pub mod Values
pub mod Walks
