-- What a call leaves by which nothing was due, and the tables that one leaves, by its reply.
use Rattle.std.proofs.Common.{◌≡◌, List, [], Option, Some, None, inl, refl, sym, subst}
use Rattle.std.specs.Prelude.{if◌then◌else◌}
use Rattle.repo_model.specs.declared.item.Item.{Item}
use Rattle.repo_model.specs.Reply.{Reply, is_free, no_memory, store_fault}
use Rattle.repo_model.specs.Tables.{Tables}
use Rattle.row_tables.specs.Commits.{tables_with}
use Rattle.row_tables.specs.Leaving.{Leaves, Shown, done, end_by}

pub told_same : (told : Option Tables) → told ≡ tables_with [] told
told_same None = refl
told_same (Some t) = refl

-- nothing was due, and nothing was done
pub quiet : (items : List Item) (now : Shown) → items ≡ [] → now.IsReady → Leaves items done now now
quiet items now none ready = subst (λ (due : List Item). Leaves due done now now) (sym none) (record { tables = told_same now.tables; cause = refl; crashes = inl (refl, refl); ready = ready })

-- so by a reply that is none of a failure of the records
pub quiet-by : (items : List Item) (now : Shown) (reply : Reply) → items ≡ [] → now.IsReady → (reply ≡ store_fault → ⊥) → Leaves items (end_by reply) now now
quiet-by items now store_fault none ready other = absurd (other refl)
quiet-by items now no_memory none ready other = record { tables = refl; cause = refl; crashes = inl refl; ready = ready }
quiet-by items now reply none ready other = quiet items now none ready

-- the tables are as they were where the reply says that nothing changed
pub tables-by : (items : List Item) (old new : Shown) (reply : Reply) → Leaves items (end_by reply) old new → new.tables ≡ (if is_free reply then old.tables else tables_with items old.tables)
tables-by items old new store_fault leaves = leaves.tables
tables-by items old new no_memory leaves = leaves.tables
tables-by items old new reply leaves = leaves.tables
