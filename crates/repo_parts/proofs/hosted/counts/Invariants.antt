use Rattle.std.proofs.Common.{◌≡◌, take, length}
use Rattle.std.specs.Prelude.{count_by, sum_by}
use Rattle.ordered_rows.specs.Rows.{fades}
use Rattle.repo_model.specs.Data.{Hosted}
use Rattle.repo_parts.proofs.hosted.counts.Given as goal

-- those of the repositories so far
abbrev pub invariant-loop-repo : goal.invariant-loop-repo
invariant-loop-repo g l =
    (l.all ≡ sum_by (λ (h : Hosted). length h.rows) (take l.repo-index l.repos)) × (l.fading ≡ sum_by (λ (h : Hosted). count_by fades h.rows) (take l.repo-index l.repos))
