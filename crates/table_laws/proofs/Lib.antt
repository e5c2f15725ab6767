pub mod Forms
pub mod Building
