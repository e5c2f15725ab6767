pub mod Forms
pub mod LandLemmas
