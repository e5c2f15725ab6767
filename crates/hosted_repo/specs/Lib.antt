pub mod Delivered
pub mod Expired
pub mod Fades
pub mod Puts
pub mod Releases
pub mod Restored
pub mod Seens
