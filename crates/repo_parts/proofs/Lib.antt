pub mod AmongLemmas
pub mod BlobLemmas
pub mod CachedLemmas
pub mod CountLemmas
pub mod EndTurns
pub mod GarbageLemmas
mod GroupLemmas
pub mod HostedLemmas
mod LendLemmas
pub mod ListLemmas
mod LoopLemmas
mod MemberLemmas
mod PlacedLemmas
pub mod PurgeLemmas
pub mod PutReplies
pub mod SessionNumbers
pub mod ShelfChanges
mod ShelfLemmas
mod ShelfLooks
pub mod StagedLemmas
pub mod UseLemmas
