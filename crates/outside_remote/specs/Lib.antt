pub mod Exchanges
pub mod Script
