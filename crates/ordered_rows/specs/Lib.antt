pub mod Homes
pub mod Recording
pub mod Rows
pub mod Standings
