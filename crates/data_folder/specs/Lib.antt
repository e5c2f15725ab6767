pub mod Faults
pub mod Reporting
