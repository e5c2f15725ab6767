-- What applying items to the tables gives and leaves, and what the tables keep beside their rows.
use Rattle.std.specs.Prelude.{◌≡◌, ℕ, Bool, false, nat_lt, if◌then◌else◌, IsTrue, List, [], ◌∷◌, fold, take, Result, Ok, Err}
use Rattle.std.specs.List.{list_all}
use Rattle.std.specs.Ordering.{nat_cmp}
use Rattle.std.specs.BTreeSet.{BTreeSet, contains}
use Rattle.repo_model.specs.declared.item.Item.{Item}
use Rattle.repo_model.specs.Tables.{Tables, RecordedSession, item_on, applied, names_blob}
use Rattle.row_tables.specs.declared.faults.ApplyFault.{ApplyFault}
use Rattle.row_tables.specs.declared.faults.ApplyFault.TheVariants.{NoMemory, Misfit}

-- the tables after items that fit them
abbrev pub with_items : Tables → List Item → Tables
with_items t items = fold item_on t items

-- a step that is made where something fits, and else changes nothing
pub record Tried (fits : Bool) (next old new : Tables) (made : Bool) : Type 0 where
  pub fits_so : made ≡ fits
  pub then_so : new ≡ (if made then next else old)

-- the items were applied; or one of them misfits, and those before it were applied; or memory ran out, and some of the
-- first ones, which fit, were applied
abbrev pub Applies : Tables → List Item → Tables → Result (Unit {0}) ApplyFault → Type 0
Applies old items new (Ok done) = applied old items ≡ Ok new
Applies old items new (Err (Misfit n)) = (applied old items ≡ Err n) × (new ≡ with_items old (take n items))
Applies old items new (Err NoMemory) = (n : ℕ) × (applied old (take n items) ≡ Ok new)

-- each number of a blob that a row names is among these
abbrev pub NamesAmong : BTreeSet ℕ → Tables → Type 0
NamesAmong numbers t = (n : ℕ) → contains nat_cmp numbers n ≡ false → names_blob n t ≡ false

-- sessions in rising order of number
abbrev pub AreRising : List RecordedSession → Type 0
AreRising [] = Unit {0}
AreRising (s ∷ sessions) = IsTrue (list_all (λ (t : RecordedSession). nat_lt s.number t.number) sessions) × AreRising sessions
