use Rattle.repo_parts.proofs.LoopLemmas.{found-more, found-start}
use Rattle.repo_parts.proofs.purges.expiring.Goals as goal

pub loop-repo-init : goal.loop-repo-init
loop-repo-init g c = rw (c.new-change.ensures, c.new-counts.ensures.items, c.new-blobs.ensures.items) (found-start c.args.grace c.args.now c.args.repos.now)

pub loop-repo-preserved : goal.loop-repo-preserved
loop-repo-preserved g c =
    let repos = c.args.repos.now in
    let i = c.loop-repo.repo-index in
    rw (c.in_ok-push.ensures.items, c.in_ok-count.ensures.change, c.in_ok-count.ensures.blobs)
    (found-more c.args.grace c.args.now repos i c.in_ok-count.count c.repo-item.result c.loop-repo.change c.loop-repo.counts.items c.loop-repo.blobs.items c.loop-repo-test.true c.repo-item.is
    c.in_ok-count.ensures.count c.loop-repo.invariant)
