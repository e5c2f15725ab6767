pub mod AnsweredReads
pub mod FirstLooks
pub mod NamedServed
pub mod NamedStreams
