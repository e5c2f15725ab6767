pub mod Program
pub mod Wanted
