-- How many rows fade, as rows come, change and go.
use Rattle.std.proofs.Common.{◌≡◌, ℕ, ◌+◌, ◌-◌, ◌≤◌, true, false, cond, not, List, [], ◌∷◌, length, filter, Some, String, Global, Less, Equal, Greater, nat_cmp, refl, ap, arith}
use Rattle.std.proofs.lemmas.Bool.{and_parts}
use Rattle.std.proofs.lemmas.List.{length-map}
use Rattle.std.proofs.lemmas.List.Sums.{sum_by-cons}
use Rattle.std.proofs.lemmas.Option.{none-some}
use Rattle.std.specs.Cmp.Lexicographic.{slice_cmp}
use Rattle.std.specs.Map.{lookup, set_value, remove_entry}
use Rattle.std.specs.Ordering.{match_ordering}
use Rattle.std.specs.Prelude.{count_by}
use Rattle.outside.specs.declared.stores.Held.{Ghosts}
use Rattle.repo_model.specs.Data as plain
use Rattle.repo_model.specs.Document.{is_listed}
use Rattle.repo_model.specs.Effect.{with_row}
use Rattle.ordered_rows.specs.Rows.{fades, goes, is_before, shown_at, shown_entry, shown_phase, shown_rows, without_first}
use Rattle.ordered_rows.specs.declared.row.Phase.{Phase}
use Rattle.ordered_rows.specs.declared.row.Row.{Row}
use Rattle.ordered_rows.proofs.MapLemmas.{at_text}

abbrev pub count : List plain.Row → ℕ
count rows = count_by fades rows

abbrev one : plain.Row → ℕ
one row = cond (fades row) 1 0

abbrev pub weight : Phase → ℕ
weight phase = cond (not (is_listed (shown_phase phase))) 1 0

first : (row : plain.Row) (rows : List plain.Row) → count (row ∷ rows) ≡ one row + count rows
first row rows = sum_by-cons one row rows

-- one more row
pub with_one : (new : plain.Row) (rows : List plain.Row) → count (with_row new rows) ≡ one new + count rows
with_one new [] = first new []
with_one new (row ∷ rows) =
    elim (slice_cmp nat_cmp new.path row.path)
    as (λ o. count (match_ordering o (new ∷ row ∷ rows) (new ∷ row ∷ rows) (row ∷ with_row new rows)) ≡ one new + count (row ∷ rows)) [
      | Less ↦ first new (row ∷ rows)
      | Equal ↦ first new (row ∷ rows)
      | Greater ↦ omega (arith, first row (with_row new rows), first row rows, with_one new rows)
    ]

before_fades : (limit : ℕ) (p : plain.Phase) → is_before limit p ≡ true → not (is_listed p) ≡ true
before_fades limit plain.listed e = cc
before_fades limit (plain.fading since) e = refl

before_counts : (limit : ℕ) (row : plain.Row) → is_before limit row.phase ≡ true → one row ≡ 1
before_counts limit row e = ap (λ b. cond b 1 0) (before_fades limit row.phase e)

goes_counts : (n limit : ℕ) (row : plain.Row) → goes n limit row.phase ≡ true → one row ≡ 1
goes_counts n limit row e = before_counts limit row (and_parts _ _ e).1

-- each row that goes has faded
pub dropped : (n limit : ℕ) (rows : List plain.Row) → count rows + length (without_first n limit rows) ≡ count (without_first n limit rows) + length rows
dropped n limit [] = refl
dropped n limit (row ∷ rows) =
    elim (goes n limit row.phase)
    as (λ b. goes n limit row.phase ≡ b → count (row ∷ rows) + length (cond b (without_first (n - 1) limit rows) (row ∷ without_first n limit rows))
    ≡ count (cond b (without_first (n - 1) limit rows) (row ∷ without_first n limit rows)) + length (row ∷ rows)) [
      | true ↦ λ is. omega (arith, first row rows, goes_counts n limit row is, dropped (n - 1) limit rows)
      | false ↦ λ is. omega (arith, first row rows, first row (without_first n limit rows), dropped n limit rows)
    ] refl

pub fewer : (n limit : ℕ) (rows : List plain.Row) → length (without_first n limit rows) ≤ length rows
fewer n limit [] = omega arith
fewer n limit (row ∷ rows) =
    elim (goes n limit row.phase) as (λ b. length (cond b (without_first (n - 1) limit rows) (row ∷ without_first n limit rows)) ≤ length (row ∷ rows)) [
      | true ↦ omega (arith, fewer (n - 1) limit rows)
      | false ↦ omega (arith, fewer n limit rows)
    ]

-- where none fades none goes
pub none_goes : (n limit : ℕ) (rows : List plain.Row) → count rows ≡ 0 → rows ≡ without_first n limit rows
none_goes n limit [] none = refl
none_goes n limit (row ∷ rows) none =
    elim (goes n limit row.phase)
    as (λ b. goes n limit row.phase ≡ b → row ∷ rows ≡ cond b (without_first (n - 1) limit rows) (row ∷ without_first n limit rows)) [
      | true ↦ λ is. absurd (omega (arith, none, first row rows, goes_counts n limit row is))
      | false ↦ λ is. ap (λ rest. row ∷ rest) (none_goes n limit rows (omega (arith, none, first row rows)))
    ] refl

pub none_before : (limit : ℕ) (rows : List plain.Row) → count rows ≡ 0 → [] ≡ filter (λ row. is_before limit row.phase) rows
none_before limit [] none = refl
none_before limit (row ∷ rows) none =
    elim (is_before limit row.phase)
    as (λ b. is_before limit row.phase ≡ b → [] ≡ cond b (row ∷ filter (λ r. is_before limit r.phase) rows) (filter (λ r. is_before limit r.phase) rows)) [
      | true ↦ λ is. absurd (omega (arith, none, first row rows, before_counts limit row is))
      | false ↦ λ is. none_before limit rows (omega (arith, none, first row rows))
    ] refl

module _ {X : Type 0} {G : Ghosts X} where
  same_weight : (x y : Row X G) → Some x ≡ Some y → weight x.phase ≡ weight y.phase
  same_weight x y e = cc

  -- the row at a path is written over
  pub written : (path : List ℕ) (es : List (String Global × Row X G)) (old new : Row X G) → lookup (at_text path) es ≡ Some old
      → count (shown_rows (set_value (at_text path) es new)) + weight old.phase ≡ count (shown_rows es) + weight new.phase
  written path [] old new is = absurd (none-some old is)
  written path (e ∷ es) old new is =
      elim (at_text path e.0)
      as (λ b. cond b (Some e.1) (lookup (at_text path) es) ≡ Some old
      → count (shown_rows (cond b ((e.0, new) ∷ es) (e ∷ set_value (at_text path) es new))) + weight old.phase ≡ count (shown_rows (e ∷ es)) + weight new.phase) [
        | true ↦ λ here. omega (arith, first (shown_entry (e.0, new)) (shown_rows es), first (shown_entry e) (shown_rows es), same_weight e.1 old here)
        | false ↦ λ there. omega (arith, first (shown_entry e) (shown_rows (set_value (at_text path) es new)), first (shown_entry e) (shown_rows es), written path es old new there)
      ] is

  -- the row at a path is taken out
  pub taken : (path : List ℕ) (es : List (String Global × Row X G)) (old : Row X G) → lookup (at_text path) es ≡ Some old
      → count (shown_rows (remove_entry (at_text path) es)) + weight old.phase ≡ count (shown_rows es)
  taken path [] old is = absurd (none-some old is)
  taken path (e ∷ es) old is =
      elim (at_text path e.0)
      as (λ b. cond b (Some e.1) (lookup (at_text path) es) ≡ Some old → count (shown_rows (cond b es (e ∷ remove_entry (at_text path) es))) + weight old.phase ≡ count (shown_rows (e ∷ es))) [
        | true ↦ λ here. omega (arith, first (shown_entry e) (shown_rows es), same_weight e.1 old here)
        | false ↦ λ there. omega (arith, first (shown_entry e) (shown_rows (remove_entry (at_text path) es)), first (shown_entry e) (shown_rows es), taken path es old there)
      ] is

  -- the first rows that have faded go
  module _ (n limit : ℕ) (es after : List (String Global × Row X G)) (made : shown_rows after ≡ without_first n limit (shown_rows es)) where
    pub shorter : length after ≤ length es
    shorter = omega (arith, length-map after shown_entry, length-map es shown_entry, ap length made, fewer n limit (shown_rows es))

    pub left : count (shown_rows es) + length after ≡ count (shown_rows after) + length es
    left = omega (arith, length-map after shown_entry, length-map es shown_entry, ap length made, ap count made, dropped n limit (shown_rows es))

  -- the count once a row is added, written over or taken out
  module _ (path : List ℕ) (es after : List (String Global × Row X G)) (fading more : ℕ) (counted : fading ≡ count (shown_rows es)) where
    pub added : (row : Row X G) → more ≡ weight row.phase → shown_rows after ≡ with_row (shown_at path row) (shown_rows es) → fading + more ≡ count (shown_rows after)
    added row is made =
        let same : one (shown_at path row) ≡ weight row.phase = refl in
        omega (arith, counted, is, same, ap count made, with_one (shown_at path row) (shown_rows es))

    pub at_least : (old : Row X G) → more ≡ weight old.phase → lookup (at_text path) es ≡ Some old → more ≤ fading
    at_least old is found = omega (arith, counted, is, taken path es old found)

    pub removed_one : (old : Row X G) → more ≡ weight old.phase → lookup (at_text path) es ≡ Some old → after ≡ remove_entry (at_text path) es → fading - more ≡ count (shown_rows after)
    removed_one old is found made = omega (arith, counted, is, taken path es old found, ap (λ xs. count (shown_rows xs)) made)

    pub listed_one : (old new : Row X G) → more ≡ weight old.phase → weight new.phase ≡ 0 → lookup (at_text path) es ≡ Some old → after ≡ set_value (at_text path) es new
        → fading - more ≡ count (shown_rows after)
    listed_one old new is none found made = omega (arith, counted, is, none, taken path es old found, written path es old new found, ap (λ xs. count (shown_rows xs)) made)

    pub faded_one : (old new : Row X G) → more ≡ weight old.phase → weight new.phase ≡ 1 → lookup (at_text path) es ≡ Some old → after ≡ set_value (at_text path) es new
        → fading - more + 1 ≡ count (shown_rows after)
    faded_one old new is once found made = omega (arith, counted, is, once, taken path es old found, written path es old new found, ap (λ xs. count (shown_rows xs)) made)
