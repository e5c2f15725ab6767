pub mod Fronts
mod Outlasting
mod OutlastingFiles
mod Again
mod AgainFiles
pub mod Created
pub mod RunLaws
pub mod GivenOut
mod Spared
pub mod AllRows
mod Stored
pub mod Missed
pub mod Begun
pub mod Stores
pub mod Handed
pub mod Bytes
