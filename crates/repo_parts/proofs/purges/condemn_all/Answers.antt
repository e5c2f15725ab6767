use Rattle.std.proofs.Common.{◌+◌, get_or, refl, sym, subst}
use Rattle.std.proofs.lemmas.List.{get_or_default}
use Rattle.repo_parts.proofs.LoopLemmas.{IsCondemned, condemned-more}
use Rattle.repo_parts.proofs.purges.condemn_all.Goals as goal

pub loop-blob-init : goal.loop-blob-init
loop-blob-init c = record { yard_so = refl; kept_so = refl; once = c.requires }

pub loop-blob-preserved : goal.loop-blob-preserved
loop-blob-preserved c =
    let blobs = c.args.blobs.now in
    let i = c.loop-blob.blob-index in
    let n = get_or blobs i 0 in
    subst (IsCondemned blobs c.args.yard.now (i + 1)) (sym c.condemn.ensures)
    (condemned-more blobs c.args.yard.now i n c.loop-blob.yard c.loop-blob-test.true (get_or_default blobs i 0 n c.loop-blob-test.true) c.loop-blob.invariant)
