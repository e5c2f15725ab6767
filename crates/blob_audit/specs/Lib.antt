pub mod Damages
pub mod Faults
pub mod Files
pub mod Found
pub mod Order
