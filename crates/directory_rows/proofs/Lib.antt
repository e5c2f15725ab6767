pub mod TextLemmas
pub mod PathForms
pub mod EntryForms
pub mod DirectoryForms
pub mod Steps
pub mod RowLemmas
pub mod DocumentLemmas
pub mod DueLemmas
