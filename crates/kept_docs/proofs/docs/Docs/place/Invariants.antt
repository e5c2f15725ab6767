use Rattle.std.proofs.Common.{◌≡◌, ℕ, List, vec_len}
use Rattle.kept_docs.specs.Placed.{HasRoom, placed}
use Rattle.kept_docs.proofs.docs.Docs.place.Given as goal

abbrev pub invariant-loop-page : goal.invariant-loop-page
invariant-loop-page l = record {
  room : HasRoom l.self l.pages.items;
  same : (text : List ℕ) → placed text l.self l.pages.items ≡ placed text l.fn.self l.fn.pages.items;
}

abbrev pub decreases-loop-page : goal.decreases-loop-page
decreases-loop-page l = vec_len l.pages
