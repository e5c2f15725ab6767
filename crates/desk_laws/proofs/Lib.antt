mod Fitting
mod Streams
mod Servers
pub mod Desks
mod Seats
mod Fetched
mod Drawn
mod Callers
pub mod Telling
pub mod Handing
pub mod HandedOver
