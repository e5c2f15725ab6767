pub mod Landings
pub mod Rules
