pub mod Gains
mod Passing
