use Rattle.std.proofs.Common.{◌≡◌, ℕ, List}
use Rattle.kept_docs.specs.Placed.{page_at}
use Rattle.kept_docs.proofs.PageLemmas.{first, found}
use Rattle.kept_docs.proofs.drafts.Drafts.written.Given as goal

abbrev pub invariant-loop-path : goal.invariant-loop-path
invariant-loop-path l = (text : List ℕ) → first (page_at text l.pages.items) (found text l.path-iterator) ≡ found text l.fn.self.map.entries
