use Rattle.std.proofs.Common.{◌+◌, refl}
use Rattle.repo_restart.proofs.NumberLemmas.{above-both, among-permutation}
use Rattle.repo_restart.proofs.ShelfLemmas.{clears, clears-front, clears-none, on-err}
use Rattle.repo_restart.proofs.leftovers.clear.Goals as goal

pub returns-in_err-sorted-clause-err : goal.returns-in_err-sorted-clause-err
returns-in_err-sorted-clause-err g c =
    on-err c.from_residual.result (clears-none c.args.named.now (g.B.Blobs.shelf c.args.blobs.now) (g.B.Blobs.shelf c.args.blobs.now) refl)

pub returns-in_err-stored-clause-err : goal.returns-in_err-stored-clause-err
returns-in_err-stored-clause-err g c =
    on-err c.from_residual-in_err-stored.result
    (clears-none c.args.named.now (g.B.Blobs.shelf c.args.blobs.now) (g.B.Blobs.shelf c.list.new.self) c.list.ensures.kept)

pub returns-in_err-remove_left_over-clause-err : goal.returns-in_err-remove_left_over-clause-err
returns-in_err-remove_left_over-clause-err g c =
    on-err c.from_residual-in_err-remove_left_over.result
    (clears-front c.args.named.now c.in_ok-sorted.sorted.items c.in_ok-stored.stored.items (among-permutation c.args.named.now c.in_ok-sorted.sorted.items c.in_ok-sorted.ensures.same)
    (g.B.Blobs.shelf c.args.blobs.now) (g.B.Blobs.shelf c.list.new.self) (g.B.Blobs.shelf c.remove_left_over.new.blobs) c.list.ensures.kept c.in_ok-stored.ensures.listed
    (rw (c.deref.ensures.value, c.deref-2.ensures.value) at c.in_err-remove_left_over.ensures.err))

pub returns-clause-ok : goal.returns-clause-ok
returns-clause-ok g c =
    clears c.args.named.now c.in_ok-sorted.sorted.items c.in_ok-stored.stored.items (among-permutation c.args.named.now c.in_ok-sorted.sorted.items c.in_ok-sorted.ensures.same)
    (g.B.Blobs.shelf c.args.blobs.now) (g.B.Blobs.shelf c.list.new.self) (g.B.Blobs.shelf c.remove_left_over.new.blobs) c.list.ensures.kept c.in_ok-stored.ensures.listed
    (rw (c.deref.ensures.value, c.deref-2.ensures.value) at c.in_ok-remove_left_over.ensures.ok) (c.greatest_from-2.result + 1)
    (above-both c.args.named.now c.in_ok-stored.stored.items c.deref-3.result.now c.greatest_from.result c.greatest_from-2.result c.deref-3.ensures.value c.greatest_from.ensures.value
    c.greatest_from-2.ensures.value)
