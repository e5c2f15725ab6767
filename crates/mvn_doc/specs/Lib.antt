pub mod Place
pub mod Picked
pub mod Reading
pub mod Sheet
pub mod Tree
pub mod Worked
