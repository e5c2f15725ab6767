pub mod StagedForms
pub mod DeliveryLemmas
pub mod UndoneLemmas
pub mod JudgingLemmas
