pub mod Turn
pub mod Whole
pub mod CoreTurn
pub mod Stock
pub mod Start
pub mod StartFaults
