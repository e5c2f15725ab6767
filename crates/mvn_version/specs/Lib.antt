pub mod Token
pub mod Element
pub mod Key
pub mod Order
pub mod Laws
pub mod Worked
