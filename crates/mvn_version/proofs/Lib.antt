pub mod Compared
pub mod Cutting
pub mod Gathering
pub mod TokenLaws
