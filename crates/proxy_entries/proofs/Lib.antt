pub mod KeyLemmas
pub mod DocumentLemmas
pub mod NegativeLemmas
pub mod RoomLemmas
pub mod Results
pub mod MomentLemmas
