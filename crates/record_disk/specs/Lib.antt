pub mod Disk
pub mod Codes
pub mod Memory
pub mod Record
