pub mod CountLemmas
pub mod MapLemmas
pub mod PlaceLemmas
pub mod YardLemmas
