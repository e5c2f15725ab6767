use Rattle.std.proofs.Common.{◌≡◌, get_or, length, sym, ap, arith}
use Rattle.std.specs.Prelude.{count_by}
use Rattle.std.proofs.lemmas.List.Sums.{count_by-le-length, sum_by_more_le_part}
use Rattle.ordered_rows.specs.Rows.{fades}
use Rattle.repo_model.specs.Data.{Hosted}
use Rattle.repo_parts.proofs.hosted.counts.Goals as goal

pub overflow_add-fading : goal.overflow_add-fading
overflow_add-fading g c =
    let repos = c.args.repos.now in
    let i = c.loop-repo.repo-index in
    let repo = c.repo-item.result in
    let part = sum_by_more_le_part (λ (h : Hosted). count_by fades h.rows) (λ (h : Hosted). length h.rows) repos i repo c.loop-repo-test.true (λ h. count_by-le-length fades h.rows) in
    let here : length (get_or repos i repo).rows ≡ length repo.rows = ap (λ (h : Hosted). length h.rows) (sym c.repo-item.is) in
    omega (arith, part, here, count_by-le-length fades repo.rows, c.counts-rows.ensures.fading, c.loop-repo.invariant.1, c.requires)
