use Rattle.repo_parts.proofs.LoopLemmas.{IsFound}
use Rattle.repo_parts.proofs.purges.expiring.Given as goal

-- what was found so far, and what is still to come
abbrev pub invariant-loop-repo : goal.invariant-loop-repo
invariant-loop-repo g l = IsFound l.grace l.now l.repos l.repo-index l.change l.counts.items l.blobs.items
