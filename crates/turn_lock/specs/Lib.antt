pub mod History
pub mod Holding
pub mod Plays
pub mod Rule
pub mod Seats
pub mod Views
