pub mod Faults
pub mod Leftovers
pub mod Rows
pub mod Taking
