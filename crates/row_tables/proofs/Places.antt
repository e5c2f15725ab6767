-- Rows and documents in the entries of an ordered map, whose keys are an id and a path.
use Rattle.std.proofs.Common.{◌≡◌, ℕ, Bool, true, false, cond, not, ◌&&◌, List, [], ◌∷◌, filter, find, Some, None, option_map, string_bytes, Ordering, Less, Equal, Greater, is_eq, nat_cmp, refl, sym, ◌∙◌, ap, bytes_eq}
use Rattle.std.proofs.lemmas.Map.Text.{is_eq-slice_cmp}
use Rattle.std.proofs.lemmas.Slice.Eq.{bytes_eq-Decides}
use Rattle.std.proofs.lemmas.Option.{none-some}
use Rattle.std.specs.Cmp.Lexicographic.{slice_cmp}
use Rattle.std.specs.Ordering.{match_ordering, ordering_then}
use Rattle.std.specs.Prelude.{◌==◌, ◌||◌}
use Rattle.std.specs.List.{AllByRecursion, list_any}
use Rattle.std.specs.List.Sorted.{IsStrictlySortedBy}
use Rattle.std.specs.Map.{lookup, set_value, keys_of, values_of, remove_entry}
use Rattle.std.specs.BTreeMap.{is_at, insert_entry}
use Rattle.repo_model.specs.Data.{Row}
use Rattle.repo_model.specs.Tables.{RecordedRow, is_recorded, recorded_at, with_recorded, change_recorded, with_document, place_cmp}
use Rattle.row_tables.specs.Stored.{Place, shown_row, shown_entry, shown_rows, shown_document, shown_documents}
use Rattle.row_tables.specs.declared.files.FileRow.{FileRow}
use Rattle.row_tables.specs.declared.documents.KeptDocument.{KeptDocument}

-- the order of keys
abbrev pub key_cmp : Place → Place → Ordering
key_cmp p q = place_cmp (string_bytes p.0) (string_bytes p.1) (string_bytes q.0) (string_bytes q.1)

abbrev pub at_key : Place → Place → Bool
at_key p q = is_at (key_cmp p) q

is_eq-then : (o p : Ordering) → is_eq (ordering_then o p) ≡ is_eq o && is_eq p
is_eq-then Less p = refl
is_eq-then Equal p = refl
is_eq-then Greater p = refl

bytes_eq-turned : (a b : List ℕ) (x y : Bool) → bytes_eq a b ≡ x → bytes_eq b a ≡ y → x ≡ y
bytes_eq-turned a b true true one two = refl
bytes_eq-turned a b false false one two = refl
bytes_eq-turned a b true false one two = sym ((bytes_eq-Decides b a).1 (sym ((bytes_eq-Decides a b).0 one))) ∙ two
bytes_eq-turned a b false true one two = sym one ∙ (bytes_eq-Decides a b).1 (sym ((bytes_eq-Decides b a).0 two))

-- a key is found where its row is
pub at_key-is_recorded : (p : Place) (e : Place × FileRow) → at_key p e.0 ≡ is_recorded (string_bytes p.0) (string_bytes p.1) (shown_entry e)
at_key-is_recorded p e =
    is_eq-then (slice_cmp nat_cmp (string_bytes p.0) (string_bytes e.0.0)) (slice_cmp nat_cmp (string_bytes p.1) (string_bytes e.0.1))
    ∙ (λ i. (is_eq-slice_cmp (string_bytes p.0) (string_bytes e.0.0) ∙ bytes_eq-turned (string_bytes p.0) (string_bytes e.0.0) _ _ refl refl) i
    && (is_eq-slice_cmp (string_bytes p.1) (string_bytes e.0.1) ∙ bytes_eq-turned (string_bytes p.1) (string_bytes e.0.1) _ _ refl refl) i)

both_equal : (p q : Place) → at_key p q ≡ bytes_eq (string_bytes p.0) (string_bytes q.0) && bytes_eq (string_bytes p.1) (string_bytes q.1)
both_equal p q =
    is_eq-then (slice_cmp nat_cmp (string_bytes p.0) (string_bytes q.0)) (slice_cmp nat_cmp (string_bytes p.1) (string_bytes q.1))
    ∙ (λ i. is_eq-slice_cmp (string_bytes p.0) (string_bytes q.0) i && is_eq-slice_cmp (string_bytes p.1) (string_bytes q.1) i)

equal_parts : (a b c d : List ℕ) (x y : Bool) → bytes_eq a b ≡ x → bytes_eq c d ≡ y → x && y ≡ true → (a ≡ b) × (c ≡ d)
equal_parts a b c d true true one two is = ((bytes_eq-Decides a b).0 one, (bytes_eq-Decides c d).0 two)
equal_parts a b c d true false one two is = absurd cc
equal_parts a b c d false y one two is = absurd cc

-- where two keys are equal, so are their texts
equal_keys : (p q : Place) → at_key p q ≡ true → (string_bytes p.0 ≡ string_bytes q.0) × (string_bytes p.1 ≡ string_bytes q.1)
equal_keys p q is = equal_parts _ _ _ _ _ _ refl refl (sym (both_equal p q) ∙ is)

-- what the map finds
pub found : (p : Place) (es : List (Place × FileRow)) → option_map (shown_row (string_bytes p.1)) (lookup (at_key p) es) ≡ recorded_at (string_bytes p.0) (string_bytes p.1) (shown_rows es)
found p [] = refl
found p (e ∷ es) =
    let rest = find (is_recorded (string_bytes p.0) (string_bytes p.1)) (shown_rows es) in
    elim (at_key p e.0)
    as (λ b. at_key p e.0 ≡ b → option_map (shown_row (string_bytes p.1)) (cond b (Some e.1) (lookup (at_key p) es)) ≡ option_map (λ (r : RecordedRow). r.row) (cond (is_recorded (string_bytes p.0) (string_bytes p.1) (shown_entry e)) (Some (shown_entry e)) rest)) [
      | true ↦ λ is. ap (λ path. Some (shown_row path e.1)) (equal_keys p e.0 is).1 ∙ ap (λ b. option_map (λ (r : RecordedRow). r.row) (cond b (Some (shown_entry e)) rest)) (sym is ∙ at_key-is_recorded p e)
      | false ↦ λ is. found p es ∙ ap (λ b. option_map (λ (r : RecordedRow). r.row) (cond b (Some (shown_entry e)) rest)) (sym is ∙ at_key-is_recorded p e)
    ] refl

-- a new row at a place that has none
pub inserted : (p : Place) (v : FileRow) (es : List (Place × FileRow)) → recorded_at (string_bytes p.0) (string_bytes p.1) (shown_rows es) ≡ None
    → shown_rows (insert_entry key_cmp es p v) ≡ with_recorded (shown_entry (p, v)) (shown_rows es)
inserted p v [] none = refl
inserted p v (e ∷ es) none =
    let rest = find (is_recorded (string_bytes p.0) (string_bytes p.1)) (shown_rows es) in
    let new = shown_entry (p, v) in
    elim (key_cmp p e.0)
    as (λ o. key_cmp p e.0 ≡ o →
    shown_rows (match_ordering o ((p, v) ∷ e ∷ es) ((e.0, v) ∷ es) (e ∷ insert_entry key_cmp es p v))
    ≡ match_ordering o (new ∷ shown_entry e ∷ shown_rows es) (new ∷ shown_entry e ∷ shown_rows es) (shown_entry e ∷ with_recorded new (shown_rows es))) [
      | Less ↦ λ is. refl
      | Equal ↦ λ is.
          let here : is_recorded (string_bytes p.0) (string_bytes p.1) (shown_entry e) ≡ true = sym (at_key-is_recorded p e) ∙ ap is_eq is in
          let some : Some (shown_entry e).row ≡ None = sym (ap (λ b. option_map (λ (r : RecordedRow). r.row) (cond b (Some (shown_entry e)) rest)) here) ∙ none in
          absurd (none-some (shown_entry e).row (sym some))
      | Greater ↦ λ is.
          let there : is_recorded (string_bytes p.0) (string_bytes p.1) (shown_entry e) ≡ false = sym (at_key-is_recorded p e) ∙ ap is_eq is in
          ap (λ rows. shown_entry e ∷ rows) (inserted p v es (sym (ap (λ b. option_map (λ (r : RecordedRow). r.row) (cond b (Some (shown_entry e)) rest)) there) ∙ none))
    ] refl

-- where no key is that of a place, no row is changed or taken away
pub unchanged : (p : Place) (f : Row → Row) (es : List (Place × FileRow)) → lookup (at_key p) es ≡ None → change_recorded (string_bytes p.0) (string_bytes p.1) f (shown_rows es) ≡ shown_rows es
unchanged p f [] none = refl
unchanged p f (e ∷ es) none =
    elim (at_key p e.0)
    as (λ b. at_key p e.0 ≡ b → change_recorded (string_bytes p.0) (string_bytes p.1) f (shown_rows (e ∷ es)) ≡ shown_rows (e ∷ es)) [
      | true ↦ λ is. absurd (none-some e.1 (sym (sym (ap (λ b. cond b (Some e.1) (lookup (at_key p) es)) is) ∙ none)))
      | false ↦ λ is.
          ap (λ b. cond b (record (shown_entry e) { row = f (shown_entry e).row }) (shown_entry e) ∷ change_recorded (string_bytes p.0) (string_bytes p.1) f (shown_rows es)) (sym (at_key-is_recorded p e) ∙ is)
          ∙ ap (λ rows. shown_entry e ∷ rows) (unchanged p f es (sym (ap (λ b. cond b (Some e.1) (lookup (at_key p) es)) is) ∙ none))
    ] refl

kept : (p : Place) (es : List (Place × FileRow)) → lookup (at_key p) es ≡ None → filter (λ r. not (is_recorded (string_bytes p.0) (string_bytes p.1) r)) (shown_rows es) ≡ shown_rows es
kept p [] none = refl
kept p (e ∷ es) none =
    let rest = filter (λ r. not (is_recorded (string_bytes p.0) (string_bytes p.1) r)) (shown_rows es) in
    elim (at_key p e.0)
    as (λ b. at_key p e.0 ≡ b → cond (not (is_recorded (string_bytes p.0) (string_bytes p.1) (shown_entry e))) (shown_entry e ∷ rest) rest ≡ shown_entry e ∷ shown_rows es) [
      | true ↦ λ is. absurd (none-some e.1 (sym (sym (ap (λ b. cond b (Some e.1) (lookup (at_key p) es)) is) ∙ none)))
      | false ↦ λ is.
          ap (λ b. cond (not b) (shown_entry e ∷ rest) rest) (sym (at_key-is_recorded p e) ∙ is)
          ∙ ap (λ rows. shown_entry e ∷ rows) (kept p es (sym (ap (λ b. cond b (Some e.1) (lookup (at_key p) es)) is) ∙ none))
    ] refl

-- the entry of a place taken away, and no other of that place left
pub removed : (p : Place) (es : List (Place × FileRow)) → lookup (at_key p) (remove_entry (at_key p) es) ≡ None
    → shown_rows (remove_entry (at_key p) es) ≡ filter (λ r. not (is_recorded (string_bytes p.0) (string_bytes p.1) r)) (shown_rows es)
removed p [] none = refl
removed p (e ∷ es) none =
    let rest = filter (λ r. not (is_recorded (string_bytes p.0) (string_bytes p.1) r)) (shown_rows es) in
    elim (at_key p e.0)
    as (λ b. at_key p e.0 ≡ b → shown_rows (cond b es (e ∷ remove_entry (at_key p) es)) ≡ cond (not (is_recorded (string_bytes p.0) (string_bytes p.1) (shown_entry e))) (shown_entry e ∷ rest) rest) [
      | true ↦ λ is.
          let gone : lookup (at_key p) es ≡ None = sym (ap (λ b. lookup (at_key p) (cond b es (e ∷ remove_entry (at_key p) es))) is) ∙ none in
          sym (kept p es gone) ∙ ap (λ b. cond (not b) (shown_entry e ∷ rest) rest) (sym is ∙ at_key-is_recorded p e)
      | false ↦ λ is.
          let behind : lookup (at_key p) (remove_entry (at_key p) es) ≡ None =
          sym (ap (λ b. cond b (Some e.1) (lookup (at_key p) (remove_entry (at_key p) es))) is) ∙ sym (ap (λ b. lookup (at_key p) (cond b es (e ∷ remove_entry (at_key p) es))) is) ∙ none in
          ap (λ rows. shown_entry e ∷ rows) (removed p es behind) ∙ ap (λ b. cond (not b) (shown_entry e ∷ rest) rest) (sym is ∙ at_key-is_recorded p e)
    ] refl

-- no later key is that of an earlier one
later_apart : (p : Place) (es : List (Place × FileRow)) → AllByRecursion (λ q. key_cmp p q ≡ Less) (keys_of es) → lookup (at_key p) es ≡ None
later_apart p [] below = refl
later_apart p (e ∷ es) below = ap (λ o. cond (is_eq o) (Some e.1) (lookup (at_key p) es)) below.0 ∙ later_apart p es below.1

same_tests : (p q : Place) (es : List (Place × FileRow)) → string_bytes p.0 ≡ string_bytes q.0 → string_bytes p.1 ≡ string_bytes q.1 → lookup (at_key q) es ≡ None → lookup (at_key p) es ≡ None
same_tests p q es one two none =
    (λ i. lookup (λ k. is_at (λ (k : Place). place_cmp (one i) (two i) (string_bytes k.0) (string_bytes k.1)) k) es) ∙ none

-- the row of a place is written over
pub rewritten : (p : Place) (f : Row → Row) (es : List (Place × FileRow)) (old new : FileRow) → IsStrictlySortedBy key_cmp (keys_of es)
    → lookup (at_key p) es ≡ Some old → ((path : List ℕ) → shown_row path new ≡ f (shown_row path old))
    → shown_rows (set_value (at_key p) es new) ≡ change_recorded (string_bytes p.0) (string_bytes p.1) f (shown_rows es)
unfolding IsStrictlySortedBy
rewritten p f [] old new sorted is becomes = absurd (none-some old is)
rewritten p f (e ∷ es) old new sorted is becomes =
    let rest = change_recorded (string_bytes p.0) (string_bytes p.1) f (shown_rows es) in
    let changed = record (shown_entry e) { row = f (shown_entry e).row } in
    elim (at_key p e.0)
    as (λ b. at_key p e.0 ≡ b → shown_rows (cond b ((e.0, new) ∷ es) (e ∷ set_value (at_key p) es new)) ≡ cond (is_recorded (string_bytes p.0) (string_bytes p.1) (shown_entry e)) changed (shown_entry e) ∷ rest) [
      | true ↦ λ here.
          let first : Some e.1 ≡ Some old = sym (ap (λ b. cond b (Some e.1) (lookup (at_key p) es)) here) ∙ is in
          let row_is : e.1 ≡ old = cc in
          let them = equal_keys p e.0 here in
          let none : lookup (at_key p) es ≡ None = same_tests p e.0 es them.0 them.1 (later_apart e.0 es sorted.0) in
          ap (λ row. record { repo = string_bytes e.0.0; row = row } ∷ shown_rows es) (becomes (string_bytes e.0.1) ∙ ap (λ (r : FileRow). f (shown_row (string_bytes e.0.1) r)) (sym row_is))
          ∙ ap (λ rows. changed ∷ rows) (sym (unchanged p f es none))
          ∙ ap (λ b. cond b changed (shown_entry e) ∷ rest) (sym here ∙ at_key-is_recorded p e)
      | false ↦ λ there.
          let behind : lookup (at_key p) es ≡ Some old = sym (ap (λ b. cond b (Some e.1) (lookup (at_key p) es)) there) ∙ is in
          ap (λ rows. shown_entry e ∷ rows) (rewritten p f es old new sorted.1 behind becomes)
          ∙ ap (λ b. cond b changed (shown_entry e) ∷ rest) (sym there ∙ at_key-is_recorded p e)
    ] refl

-- a document in the place of the one that was there
pub document_kept : (p : Place) (v : KeptDocument) (es : List (Place × KeptDocument)) → shown_documents (insert_entry key_cmp es p v) ≡ with_document (shown_document (p, v)) (shown_documents es)
document_kept p v [] = refl
document_kept p v (e ∷ es) =
    let new = shown_document (p, v) in
    elim (key_cmp p e.0)
    as (λ o. key_cmp p e.0 ≡ o →
    shown_documents (match_ordering o ((p, v) ∷ e ∷ es) ((e.0, v) ∷ es) (e ∷ insert_entry key_cmp es p v))
    ≡ match_ordering o (new ∷ shown_document e ∷ shown_documents es) (new ∷ shown_documents es) (shown_document e ∷ with_document new (shown_documents es))) [
      | Less ↦ λ is. refl
      | Equal ↦ λ is.
          let them = equal_keys p e.0 (ap is_eq is) in
          ap (λ repo. record { repo = repo; path = string_bytes e.0.1; checked = v.checked; document = v.document } ∷ shown_documents es) (sym them.0)
          ∙ ap (λ path. record { repo = string_bytes p.0; path = path; checked = v.checked; document = v.document } ∷ shown_documents es) (sym them.1)
      | Greater ↦ λ is. ap (λ documents. shown_document e ∷ documents) (document_kept p v es)
    ] refl

-- a number of a blob among the values of a map, and among the rows
pub any_blob : (n : ℕ) (es : List (Place × FileRow)) → list_any (λ (r : FileRow). r.blob == n) (values_of es) ≡ list_any (λ (r : RecordedRow). r.row.blob.number == n) (shown_rows es)
any_blob n [] = refl
any_blob n (e ∷ es) = ap (λ b. (e.1.blob == n) || b) (any_blob n es)
