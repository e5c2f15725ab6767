use Rattle.std.proofs.Common.{◌≤◌, get_or, length, arith}
use Rattle.std.proofs.lemmas.List.{get_or_default}
use Rattle.repo_parts.proofs.LoopLemmas.{drop-more}
use Rattle.repo_parts.proofs.purges.drop_expired.Goals as goal

pub loop-place-preserved : goal.loop-place-preserved
loop-place-preserved g c =
    let counts = c.args.counts.now in
    let i = c.loop-place.place in
    let n = get_or counts i 0 in
    let few : length counts ≤ length c.args.repos.now.items = omega (arith, c.requires) in
    drop-more c.args.grace c.args.now counts c.args.repos.now.items c.loop-place.repos.items i n c.index_mut.result.now c.drop_expired.new.self few c.loop-place-test.true
    (get_or_default counts i 0 n c.loop-place-test.true) c.loop-place.invariant c.index_mut.ensures.value c.drop_expired.ensures
