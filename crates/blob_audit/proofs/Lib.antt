pub mod DamageLemmas
pub mod Merging
pub mod PrintLemmas
