-- What a commit leaves of the records that is answered by a reply.
use Rattle.std.proofs.Common.{◌≡◌, false, List, [], Err, refl, sym, subst}
use Rattle.std.proofs.lemmas.Bool.{false≢true}
use Rattle.repo_model.specs.declared.item.Item.{Item}
use Rattle.repo_model.specs.Reply.{Reply, is_free}
use Rattle.row_tables.specs.declared.faults.CommitFault.{CommitFault}
use Rattle.row_tables.specs.declared.faults.CommitFault.TheVariants as commit
use Rattle.row_tables.specs.Leaving.{Leaves, Shown, done, end_by, end_of, failing}
use Rattle.hosted_delivery.specs.Deliveries.{LeavesDelivery, is_done, shown_put_all}
use Rattle.hosted_delivery.specs.declared.put_all.PutAll.{PutAll}
use Rattle.hosted_delivery.specs.declared.put_all.PutAll.TheVariants as did
use Rattle.deploy_session.specs.Recording.{failed_by}

module _ (old new : Shown) where
  -- a commit that failed
  by-fault : (items : List Item) (fault : CommitFault) → Leaves items (end_of {T = Unit {0}} (Err fault)) old new → Leaves items (end_by (failed_by fault)) old new
  by-fault items commit.Failed leaves = leaves
  by-fault items commit.NoMemory leaves = leaves

  pub failed-leaves : (items : List Item) (fault : CommitFault) (reply : Reply) → reply ≡ failed_by fault → Leaves items (end_of {T = Unit {0}} (Err fault)) old new → Leaves items (end_by reply) old new
  failed-leaves items fault reply is leaves = subst (λ (r : Reply). Leaves items (end_by r) old new) (sym is) (by-fault items fault leaves)

  -- a delivery that was refused, or that failed
  pub refused-leaves : (items others : List Item) (answer : PutAll) → is_done answer ≡ false → LeavesDelivery items answer old new
      → (is_free (shown_put_all answer) ≡ false → others ≡ []) → (answer ≡ did.StoreFault → items ≡ others) → Leaves others (end_by (shown_put_all answer)) old new
  refused-leaves items others (did.Offends path kept sent) refused leaves none same = subst (λ (due : List Item). Leaves due done old new) (sym (none refl)) leaves.0
  refused-leaves items others (did.MissingPom dir) refused leaves none same = subst (λ (due : List Item). Leaves due done old new) (sym (none refl)) leaves.0
  refused-leaves items others did.StoreFault refused leaves none same = subst (λ (due : List Item). Leaves due failing old new) (same refl) leaves
  refused-leaves items others did.NoMemory refused leaves none same = record { tables = leaves.tables; cause = leaves.cause; crashes = leaves.crashes; ready = leaves.ready }
  refused-leaves items others (did.Done count blobs) refused leaves none same = absurd (false≢true (sym refused))
