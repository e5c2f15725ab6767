use Rattle.repo_parts.proofs.LoopLemmas.{IsCondemned}
use Rattle.repo_parts.proofs.purges.condemn_all.Given as goal

-- the blobs so far, and those that are still to come
abbrev pub invariant-loop-blob : goal.invariant-loop-blob
invariant-loop-blob l = IsCondemned l.blobs l.fn.yard l.blob-index l.yard
