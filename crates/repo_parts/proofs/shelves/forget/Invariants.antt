use Rattle.repo_parts.specs.Shelves.{is_gone}
use Rattle.repo_parts.proofs.ShelfLemmas.{IsSwept}
use Rattle.repo_parts.proofs.shelves.forget.Given as goal

-- the shelves so far have forgotten
abbrev pub invariant-loop-place : goal.invariant-loop-place
invariant-loop-place l = IsSwept (is_gone l.changed) l.fn.shelves.items l.shelves.items l.place
