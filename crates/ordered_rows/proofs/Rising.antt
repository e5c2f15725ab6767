-- Rows in rising order of path.
use Rattle.std.proofs.Common.{◌≡◌, ℕ, List, [], ◌∷◌, String, Global, string_bytes, Ordering, Less, nat_cmp}
use Rattle.std.specs.Cmp.Lexicographic.{slice_cmp}
use Rattle.std.specs.List.{AllByRecursion}
use Rattle.std.specs.List.Sorted.{IsStrictlySortedBy}
use Rattle.std.specs.Map.{keys_of}
use Rattle.std.specs.String.{string_cmp}
use Rattle.outside.specs.declared.stores.Held.{Ghosts}
use Rattle.repo_model.specs.Data as plain
use Rattle.ordered_rows.specs.Rows.{shown_rows}
use Rattle.ordered_rows.specs.declared.row.Row.{Row}

abbrev pub cmp : List ℕ → List ℕ → Ordering
cmp a b = slice_cmp nat_cmp a b

-- all rows come after a path; each row comes after all before it
abbrev pub AreAfter : List ℕ → List plain.Row → Type 0
AreAfter path rows = AllByRecursion (λ (row : plain.Row). cmp path row.path ≡ Less) rows

abbrev pub AreRising : List plain.Row → Type 0
AreRising [] = Unit {0}
AreRising (row ∷ rows) = AreAfter row.path rows × AreRising rows

module _ {X : Type 0} {G : Ghosts X} where
  after-shown : (k : String Global) (es : List (String Global × Row X G)) → AllByRecursion (λ y. string_cmp k y ≡ Less) (keys_of es) → AreAfter (string_bytes k) (shown_rows es)
  after-shown k [] h = tt
  after-shown k (e ∷ es) h = (h.0, after-shown k es h.1)

  pub rising-shown : (es : List (String Global × Row X G)) → IsStrictlySortedBy string_cmp (keys_of es) → AreRising (shown_rows es)
  unfolding IsStrictlySortedBy
  rising-shown [] h = tt
  rising-shown (e ∷ es) h = (after-shown e.0 es h.0, rising-shown es h.1)
