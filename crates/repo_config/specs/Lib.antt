pub mod Form
pub mod Names
pub mod Reading
pub mod Refusal
pub mod Source
