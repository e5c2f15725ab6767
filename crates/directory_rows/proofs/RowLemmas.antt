-- Rows in byte order of path.
use Rattle.std.proofs.Common.{Bor, ◌≡◌, ℕ, ◌-◌, ◌<◌, ◌≤◌, Bool, true, false, cond, ◌&&◌, List, [], ◌∷◌, ◌++◌, filter, length, Option, Some, String, Global, string_bytes, Less, refl, sym, ap, ◌∙◌, subst, arith, length-append}
use Rattle.std.specs.List.{AllByRecursion}
use Rattle.std.specs.Map.Iter.{TakesFirst, deref_pair}
use Rattle.std.specs.Ordering.{is_le}
use Rattle.std.specs.String.{string_cmp}
use Rattle.std.specs.BTreeMap.Range.{entries_between}
use Rattle.std.specs.declared.ops.Bound.TheVariants.{Included, Unbounded}
use Rattle.std.proofs.lemmas.Bool.{both_ways, false_from_ne_true}
use Rattle.std.proofs.lemmas.List.{append-nil, map-append}
use Rattle.std.proofs.lemmas.List.Elements.{filter-append}
use Rattle.outside.specs.declared.stores.Held.{Ghosts}
use Rattle.repo_model.specs.Data as plain
use Rattle.directory_rows.specs.Documents.{rest_from}
use Rattle.ordered_rows.specs.Rows.{shown_at, shown_entry, shown_rows}
use Rattle.ordered_rows.specs.declared.row.Row.{Row}
use Rattle.ordered_rows.proofs.Rising.{AreAfter, AreRising}
use Rattle.directory_rows.proofs.TextLemmas.{cmp, UpTo, UpTo-less, UpTo-trans, UpTo-front, not_before, before_trans}

and_true : (b : Bool) → (b && true) ≡ b
and_true true = refl
and_true false = refl

module _ {X : Type 0} {G : Ghosts X} where
  -- the entries from a key on
  pub between-shown : (text : String Global) (es : List (String Global × Row X G)) → shown_rows (entries_between string_cmp (Included text) Unbounded es) ≡ rest_from (string_bytes text) (shown_rows es)
  between-shown text [] = refl
  between-shown text (e ∷ es) =
      ap (λ b. shown_rows (cond b (e ∷ entries_between string_cmp (Included text) Unbounded es) (entries_between string_cmp (Included text) Unbounded es))) (and_true (is_le (string_cmp text e.0)))
      ∙ elim (is_le (string_cmp text e.0)) as (λ b. shown_rows (cond b (e ∷ entries_between string_cmp (Included text) Unbounded es) (entries_between string_cmp (Included text) Unbounded es))
      ≡ cond b (shown_entry e ∷ rest_from (string_bytes text) (shown_rows es)) (rest_from (string_bytes text) (shown_rows es))) [
        | true ↦ ap (λ r. shown_entry e ∷ r) (between-shown text es)
        | false ↦ between-shown text es
      ]

after-filter : (path : List ℕ) (p : plain.Row → Bool) (rows : List plain.Row) → AreAfter path rows → AreAfter path (filter p rows)
after-filter path p [] h = tt
after-filter path p (row ∷ rows) h =
    elim (p row) as (λ b. AreAfter path (cond b (row ∷ filter p rows) (filter p rows))) [
      | true ↦ (h.0, after-filter path p rows h.1)
      | false ↦ after-filter path p rows h.1
    ]

pub rising-filter : (p : plain.Row → Bool) (rows : List plain.Row) → AreRising rows → AreRising (filter p rows)
rising-filter p [] h = tt
rising-filter p (row ∷ rows) h =
    elim (p row) as (λ b. AreRising (cond b (row ∷ filter p rows) (filter p rows))) [
      | true ↦ (after-filter row.path p rows h.0, rising-filter p rows h.1)
      | false ↦ rising-filter p rows h.1
    ]

pub rising-after : (front rows : List plain.Row) → AreRising (front ++ rows) → AreRising rows
rising-after [] rows h = h
rising-after (row ∷ front) rows h = rising-after front rows h.1

after-member : (path : List ℕ) (front rows : List plain.Row) (row : plain.Row) → AreAfter path (front ++ row ∷ rows) → cmp path row.path ≡ Less
after-member path [] rows row h = h.0
after-member path (first ∷ front) rows row h = after-member path front rows row h.1

-- what stands before a row is not after a text that lies after the row
pub front-gone : (next : List ℕ) (front rows : List plain.Row) (row : plain.Row) → AreRising (front ++ row ∷ rows) → cmp row.path next ≡ Less → rest_from next front ≡ []
front-gone next [] rows row up h = refl
front-gone next (first ∷ front) rows row up h =
    let before : cmp first.path next ≡ Less = before_trans first.path row.path next (UpTo-less first.path row.path (after-member first.path front rows row up.0)) h in
    ap (λ b. cond b (first ∷ rest_from next front) (rest_from next front)) (false_from_ne_true (is_le (cmp next first.path)) (not_before first.path next before))
    ∙ front-gone next front rows row up.1 h

-- the rows from a later text on are among those from an earlier one on
pub rest-rest : (text next : List ℕ) (rows : List plain.Row) → UpTo text next → rest_from next (rest_from text rows) ≡ rest_from next rows
rest-rest text next [] h = refl
rest-rest text next (row ∷ rows) h =
    elim (is_le (cmp text row.path)) as (λ b. is_le (cmp text row.path) ≡ b → rest_from next (cond b (row ∷ rest_from text rows) (rest_from text rows)) ≡ rest_from next (row ∷ rows)) [
      | true ↦ λ here.
          elim (is_le (cmp next row.path)) as (λ b. cond b (row ∷ rest_from next (rest_from text rows)) (rest_from next (rest_from text rows)) ≡ cond b (row ∷ rest_from next rows) (rest_from next rows)) [
            | true ↦ ap (λ r. row ∷ r) (rest-rest text next rows h)
            | false ↦ rest-rest text next rows h
          ]
      | false ↦ λ there.
          rest-rest text next rows h
          ∙ sym (ap (λ b. cond b (row ∷ rest_from next rows) (rest_from next rows))
          (false_from_ne_true (is_le (cmp next row.path)) (λ up. both_ways (is_le (cmp text row.path)) there (UpTo-trans text next row.path h up))))
    ] refl

-- each row stands at or after a path
abbrev pub AreFrom : List ℕ → List plain.Row → Type 0
AreFrom path rows = AllByRecursion (λ (row : plain.Row). UpTo path row.path) rows

from-after : (path : List ℕ) (rows : List plain.Row) → AreAfter path rows → AreFrom path rows
from-after path [] h = tt
from-after path (row ∷ rows) h = (UpTo-less path row.path h.0, from-after path rows h.1)

pub up_to_itself : (path : List ℕ) → UpTo path path
up_to_itself path = subst (UpTo path) (append-nil path) (UpTo-front path [])

pub from-first : (row : plain.Row) (rows : List plain.Row) → AreRising (row ∷ rows) → AreFrom row.path (row ∷ rows)
from-first row rows up = (up_to_itself row.path, from-after row.path rows up.0)

length-rest : (text : List ℕ) (rows : List plain.Row) → length (rest_from text rows) ≤ length rows
length-rest text [] = omega arith
length-rest text (row ∷ rows) =
    elim (is_le (cmp text row.path)) as (λ b. length (cond b (row ∷ rest_from text rows) (rest_from text rows)) ≤ length (row ∷ rows)) [
      | true ↦ omega (arith, length-rest text rows)
      | false ↦ omega (arith, length-rest text rows)
    ]

-- where a walk goes on after a row, fewer rows are left
pub rest-after : (text next : List ℕ) (all front rows : List plain.Row) (row : plain.Row) → AreRising all → UpTo text next → rest_from text all ≡ front ++ row ∷ rows → cmp row.path next ≡ Less
    → (rest_from next all ≡ rest_from next (row ∷ rows)) × (length (rest_from next all) < length (rest_from text all))
rest-after text next all front rows row up h is less =
    let rising : AreRising (front ++ row ∷ rows) = subst AreRising is (rising-filter (λ r. is_le (cmp text r.path)) all up) in
    let whole : rest_from next all ≡ rest_from next (row ∷ rows) =
    sym (rest-rest text next all h) ∙ ap (rest_from next) is ∙ filter-append (λ (r : plain.Row). is_le (cmp next r.path)) front (row ∷ rows)
    ∙ ap (λ r. r ++ rest_from next (row ∷ rows)) (front-gone next front rows row rising less) in
    let gone : rest_from next (row ∷ rows) ≡ rest_from next rows =
    ap (λ b. cond b (row ∷ rest_from next rows) (rest_from next rows)) (false_from_ne_true (is_le (cmp next row.path)) (not_before row.path next less)) in
    (whole, omega (arith, ap length (whole ∙ gone), length-rest next rows, ap length is, length-append front (row ∷ rows)))

from-rest : (text : List ℕ) (rows : List plain.Row) → AreFrom text (rest_from text rows)
from-rest text [] = tt
from-rest text (row ∷ rows) =
    elim (is_le (cmp text row.path)) as (λ b. is_le (cmp text row.path) ≡ b → AreFrom text (cond b (row ∷ rest_from text rows) (rest_from text rows))) [
      | true ↦ λ here. (here, from-rest text rows)
      | false ↦ λ there. from-rest text rows
    ] refl

from-member : (text : List ℕ) (front rows : List plain.Row) (row : plain.Row) → AreFrom text (front ++ row ∷ rows) → UpTo text row.path
from-member text [] rows row h = h.0
from-member text (first ∷ front) rows row h = from-member text front rows row h.1

-- a row at which a walk stands is at or after the text that it began at, and all left rows are at or after the row
pub stands-from : (text : List ℕ) (all front rows : List plain.Row) (row : plain.Row) → AreRising all → rest_from text all ≡ front ++ row ∷ rows → UpTo text row.path × AreFrom row.path (row ∷ rows)
stands-from text all front rows row up is = (
  from-member text front rows row (subst (AreFrom text) is (from-rest text all)),
  from-first row rows (rising-after front (row ∷ rows) (subst AreRising is (rising-filter (λ r. is_le (cmp text r.path)) all up))),
)

-- the rows that a walk has after it, the one that it meets, and the ones that are left
pub met : {X : Type 0} {G : Ghosts X} (text : String Global) (es range begun front rest left : List (String Global × Row X G)) (o : Option (Bor (String Global) × Bor (Row X G))) (key : Bor (String Global)) (row : Bor (Row X G))
    → o ≡ Some (key, row) → TakesFirst deref_pair rest o left → range ≡ entries_between string_cmp (Included text) Unbounded es → begun ≡ range → begun ≡ front ++ rest
    → (shown_rows rest ≡ shown_at (string_bytes key.now) row.now ∷ shown_rows left)
    × (rest_from (string_bytes text) (shown_rows es) ≡ shown_rows front ++ shown_at (string_bytes key.now) row.now ∷ shown_rows left)
met text es range begun front rest left o key row is takes between start split =
    let first : rest ≡ (key.now, row.now) ∷ left = subst (λ p. TakesFirst deref_pair rest p left) is takes in (
      ap shown_rows first,
      sym (between-shown text es) ∙ ap shown_rows (sym between ∙ sym start ∙ split ∙ ap (λ r. front ++ r) first) ∙ map-append shown_entry front ((key.now, row.now) ∷ left),
    )
