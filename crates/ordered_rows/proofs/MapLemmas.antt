-- Rows in the entries of an ordered map.
use Rattle.std.proofs.Common.{◌≡◌, ℕ, Bool, true, false, cond, not, List, [], ◌∷◌, Option, Some, None, option_map, String, Global, string_bytes, Bor, Ordering, Less, Equal, Greater, is_eq, nat_cmp, refl, sym, ◌∙◌, ap, bytes_eq, ◌++◌, map}
use Rattle.std.proofs.lemmas.Map.Text.{is_eq-slice_cmp}
use Rattle.std.proofs.lemmas.Slice.Eq.{bytes_eq-Decides}
use Rattle.std.proofs.lemmas.Bool.{false_from_ne_true, both_ways}
use Rattle.std.proofs.lemmas.Option.{none-some}
use Rattle.std.proofs.lemmas.List.{map-append}
use Rattle.std.specs.Cmp.Lexicographic.{slice_cmp}
use Rattle.std.specs.Ordering.{match_ordering}
use Rattle.std.specs.List.{AllByRecursion}
use Rattle.std.specs.List.Sorted.{IsStrictlySortedBy}
use Rattle.std.specs.Map.{lookup, set_value, keys_of, remove_entry}
use Rattle.std.specs.Map.Iter.{deref_pair}
use Rattle.std.specs.Option.{option_copied}
use Rattle.std.specs.BTreeMap.{is_at, insert_entry}
use Rattle.std.specs.String.{string_cmp}
use Rattle.outside.specs.declared.stores.Held.{Ghosts}
use Rattle.repo_model.specs.Data as plain
use Rattle.repo_model.specs.Effect.{with_row, without_row}
use Rattle.repo_model.specs.State.{row_at, change_where, is_row}
use Rattle.ordered_rows.specs.Rows.{shown_at, shown_entry, shown_rows}
use Rattle.ordered_rows.specs.declared.row.Row.{Row}

abbrev pub at_text : List ℕ → String Global → Bool
at_text path k = is_at (λ x. slice_cmp nat_cmp path (string_bytes x)) k

-- the test of the map and that of the rows
pub same_test : (path key : List ℕ) → is_eq (slice_cmp nat_cmp path key) ≡ bytes_eq key path
same_test path key =
    is_eq-slice_cmp path key ∙ elim (bytes_eq path key) as (λ b. bytes_eq path key ≡ b → b ≡ bytes_eq key path) [
      | true ↦ λ is. sym ((bytes_eq-Decides key path).1 (sym ((bytes_eq-Decides path key).0 is)))
      | false ↦ λ not. sym (false_from_ne_true (bytes_eq key path) (λ is. both_ways (bytes_eq path key) not ((bytes_eq-Decides path key).1 (sym ((bytes_eq-Decides key path).0 is)))))
    ] refl

pub option_map-copied : {A B : Type 0} (f : A → B) (o : Option (Bor A)) → option_map (λ r. f r.now) o ≡ option_map f (option_copied o)
option_map-copied f None = refl
option_map-copied f (Some x) = refl

module _ {X : Type 0} {G : Ghosts X} where
  -- what the map finds at a path
  pub found : (path : List ℕ) (es : List (String Global × Row X G)) → option_map (shown_at path) (lookup (at_text path) es) ≡ row_at path (shown_rows es)
  found path [] = refl
  found path (e ∷ es) =
      rw (same_test path (string_bytes e.0))
      (elim (bytes_eq (string_bytes e.0) path)
      as (λ b. bytes_eq (string_bytes e.0) path ≡ b → option_map (shown_at path) (cond b (Some e.1) (lookup (at_text path) es)) ≡ cond b (Some (shown_entry e)) (row_at path (shown_rows es))) [
        | true ↦ λ is. ap (λ p. Some (shown_at p e.1)) (sym ((bytes_eq-Decides (string_bytes e.0) path).0 is))
        | false ↦ λ is. found path es
      ] refl)

  -- a new entry at a path that has none
  pub inserted : (path : List ℕ) (k : String Global) (v : Row X G) (es : List (String Global × Row X G)) → string_bytes k ≡ path → row_at path (shown_rows es) ≡ None
      → shown_rows (insert_entry string_cmp es k v) ≡ with_row (shown_at path v) (shown_rows es)
  inserted path k v [] is none = ap (λ p. shown_at p v ∷ []) is
  inserted path k v (e ∷ es) is none =
      let here : (o : Ordering) → slice_cmp nat_cmp path (string_bytes e.0) ≡ o → bytes_eq (string_bytes e.0) path ≡ is_eq o = λ o h. sym (same_test path (string_bytes e.0)) ∙ ap is_eq h in
      ap (λ p. shown_rows (match_ordering (slice_cmp nat_cmp p (string_bytes e.0)) ((k, v) ∷ e ∷ es) ((e.0, v) ∷ es) (e ∷ insert_entry string_cmp es k v))) is
      ∙ elim (slice_cmp nat_cmp path (string_bytes e.0))
      as (λ o. slice_cmp nat_cmp path (string_bytes e.0) ≡ o →
      shown_rows (match_ordering o ((k, v) ∷ e ∷ es) ((e.0, v) ∷ es) (e ∷ insert_entry string_cmp es k v))
      ≡ match_ordering o (shown_at path v ∷ shown_entry e ∷ shown_rows es) (shown_at path v ∷ shown_entry e ∷ shown_rows es) (shown_entry e ∷ with_row (shown_at path v) (shown_rows es))) [
        | Less ↦ λ h. ap (λ p. shown_at p v ∷ shown_entry e ∷ shown_rows es) is
        | Equal ↦ λ h. absurd (none-some (shown_entry e) (sym (sym (ap (λ b. cond b (Some (shown_entry e)) (row_at path (shown_rows es))) (here Equal h)) ∙ none)))
        | Greater ↦ λ h.
            ap (λ rows. shown_entry e ∷ rows) (inserted path k v es is (sym (ap (λ b. cond b (Some (shown_entry e)) (row_at path (shown_rows es))) (here Greater h)) ∙ none))
      ] refl

  -- no later key is the path of an earlier one
  later_apart : (k : String Global) (f : plain.Row → plain.Row) (es : List (String Global × Row X G)) → AllByRecursion (λ y. string_cmp k y ≡ Less) (keys_of es)
      → change_where (is_row (string_bytes k)) f (shown_rows es) ≡ shown_rows es
  later_apart k f [] below = refl
  later_apart k f (e ∷ es) below =
      let other : bytes_eq (string_bytes e.0) (string_bytes k) ≡ false = sym (same_test (string_bytes k) (string_bytes e.0)) ∙ ap is_eq below.0 in
      ap (λ b. cond b (f (shown_entry e)) (shown_entry e) ∷ change_where (is_row (string_bytes k)) f (shown_rows es)) other ∙ ap (λ rows. shown_entry e ∷ rows) (later_apart k f es below.1)

  -- the row at a path is written over
  pub rewritten : (path : List ℕ) (f : plain.Row → plain.Row) (es : List (String Global × Row X G)) (old new : Row X G) → IsStrictlySortedBy string_cmp (keys_of es)
      → lookup (at_text path) es ≡ Some old → shown_at path new ≡ f (shown_at path old)
      → shown_rows (set_value (at_text path) es new) ≡ change_where (is_row path) f (shown_rows es)
  unfolding IsStrictlySortedBy
  rewritten path f [] old new sorted is again = absurd (none-some old is)
  rewritten path f (e ∷ es) old new sorted is again =
      let test = same_test path (string_bytes e.0) in
      elim (bytes_eq (string_bytes e.0) path)
      as (λ b. bytes_eq (string_bytes e.0) path ≡ b → shown_rows (set_value (at_text path) (e ∷ es) new) ≡ cond b (f (shown_entry e)) (shown_entry e) ∷ change_where (is_row path) f (shown_rows es)) [
        | true ↦ λ here.
            let path_is : path ≡ string_bytes e.0 = sym ((bytes_eq-Decides (string_bytes e.0) path).0 here) in
            let first : Some e.1 ≡ Some old = sym (ap (λ b. cond b (Some e.1) (lookup (at_text path) es)) (test ∙ here)) ∙ is in
            let row_is : e.1 ≡ old = cc in
            ap (λ b. shown_rows (cond b ((e.0, new) ∷ es) (e ∷ set_value (at_text path) es new))) (test ∙ here)
            ∙ ap (λ p. shown_at p new ∷ shown_rows es) (sym path_is)
            ∙ ap (λ r. r ∷ shown_rows es) again
            ∙ ap (λ r. f (shown_at path r) ∷ shown_rows es) (sym row_is)
            ∙ ap (λ p. f (shown_at p e.1) ∷ shown_rows es) path_is
            ∙ ap (λ rows. f (shown_entry e) ∷ rows) (sym (later_apart e.0 f es sorted.0) ∙ ap (λ p. change_where (is_row p) f (shown_rows es)) (sym path_is))
        | false ↦ λ there.
            let behind : lookup (at_text path) es ≡ Some old = sym (ap (λ b. cond b (Some e.1) (lookup (at_text path) es)) (test ∙ there)) ∙ is in
            ap (λ b. shown_rows (cond b ((e.0, new) ∷ es) (e ∷ set_value (at_text path) es new))) (test ∙ there)
            ∙ ap (λ rows. shown_entry e ∷ rows) (rewritten path f es old new sorted.1 behind again)
      ] refl

  pub unwritten : (path : List ℕ) (f : plain.Row → plain.Row) (es : List (String Global × Row X G)) → lookup (at_text path) es ≡ None
      → shown_rows es ≡ change_where (is_row path) f (shown_rows es)
  unwritten path f [] is = refl
  unwritten path f (e ∷ es) is =
      let test = same_test path (string_bytes e.0) in
      elim (bytes_eq (string_bytes e.0) path)
      as (λ b. bytes_eq (string_bytes e.0) path ≡ b → shown_rows (e ∷ es) ≡ cond b (f (shown_entry e)) (shown_entry e) ∷ change_where (is_row path) f (shown_rows es)) [
        | true ↦ λ here. absurd (none-some e.1 (sym (sym (ap (λ b. cond b (Some e.1) (lookup (at_text path) es)) (test ∙ here)) ∙ is)))
        | false ↦ λ there.
            ap (λ rows. shown_entry e ∷ rows) (unwritten path f es (sym (ap (λ b. cond b (Some e.1) (lookup (at_text path) es)) (test ∙ there)) ∙ is))
      ] refl

module _ {X : Type 0} {G : Ghosts X} where
  without_later : (k : String Global) (es : List (String Global × Row X G)) → AllByRecursion (λ y. string_cmp k y ≡ Less) (keys_of es) → shown_rows es ≡ without_row (string_bytes k) (shown_rows es)
  without_later k [] below = refl
  without_later k (e ∷ es) below =
      let other : bytes_eq (string_bytes e.0) (string_bytes k) ≡ false = sym (same_test (string_bytes k) (string_bytes e.0)) ∙ ap is_eq below.0 in
      ap (λ rows. shown_entry e ∷ rows) (without_later k es below.1)
      ∙ sym (ap (λ b. cond (not b) (shown_entry e ∷ without_row (string_bytes k) (shown_rows es)) (without_row (string_bytes k) (shown_rows es))) other)

  -- the entry of a path is taken out
  pub removed : (path : List ℕ) (es : List (String Global × Row X G)) → IsStrictlySortedBy string_cmp (keys_of es) → shown_rows (remove_entry (at_text path) es) ≡ without_row path (shown_rows es)
  unfolding IsStrictlySortedBy
  removed path [] sorted = refl
  removed path (e ∷ es) sorted =
      let test = same_test path (string_bytes e.0) in
      let rest : List plain.Row = without_row path (shown_rows es) in
      elim (bytes_eq (string_bytes e.0) path)
      as (λ b. bytes_eq (string_bytes e.0) path ≡ b → shown_rows (remove_entry (at_text path) (e ∷ es)) ≡ cond (not b) (shown_entry e ∷ rest) rest) [
        | true ↦ λ here.
            let path_is : string_bytes e.0 ≡ path = (bytes_eq-Decides (string_bytes e.0) path).0 here in
            ap (λ b. shown_rows (cond b es (e ∷ remove_entry (at_text path) es))) (test ∙ here)
            ∙ without_later e.0 es sorted.0
            ∙ ap (λ p. without_row p (shown_rows es)) path_is
        | false ↦ λ there.
            ap (λ b. shown_rows (cond b es (e ∷ remove_entry (at_text path) es))) (test ∙ there)
            ∙ ap (λ rows. shown_entry e ∷ rows) (removed path es sorted.1)
      ] refl

-- the rows that a loop has after it, and one more
pub shown_more : {X : Type 0} {G : Ghosts X} (seen : List (Bor (String Global) × Bor (Row X G))) (key : Bor (String Global)) (row : Bor (Row X G))
    → shown_rows (map deref_pair (seen ++ (key, row) ∷ [])) ≡ shown_rows (map deref_pair seen) ++ shown_at (string_bytes key.now) row.now ∷ []
shown_more seen key row =
    ap shown_rows (map-append deref_pair seen ((key, row) ∷ [])) ∙ map-append shown_entry (map deref_pair seen) ((key.now, row.now) ∷ [])
