pub mod Visits
pub mod Working
