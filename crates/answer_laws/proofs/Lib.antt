pub mod Placed
pub mod Given
pub mod Walked
pub mod Due
