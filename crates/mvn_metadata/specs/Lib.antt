pub mod Order
pub mod Merge
pub mod Document
pub mod Form
pub mod Undo
pub mod Written
