pub mod Members
pub mod Shelved
