pub mod Moved
pub mod Beside
pub mod DraftLemmas
pub mod Homes
pub mod ChangeLemmas
pub mod KeptLemmas
pub mod PageLemmas
pub mod Texts
