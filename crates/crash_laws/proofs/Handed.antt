-- What entries hand over was acknowledged, where each blob tells its bytes and no two have one number; and what was recorded first is stored still.
use Rattle.std.proofs.Common.{◌≡◌, ◌⊎◌, inl, inr, ℕ, Bool, true, false, cond, List, [], ◌∷◌, ◌++◌, map, Option, Some, None, refl, sym, ap, subst, ◌∙◌, append_assoc, append-nil}
use Rattle.std.specs.Prelude.{◌==◌, IfSome, IsTrue, if◌then◌else◌, option_and_then}
use Rattle.std.specs.BTreeMap.{insert_entry, is_at}
use Rattle.std.specs.Cmp.{nat_cmp_total, tied_itself}
use Rattle.std.specs.List.{AllByRecursion, list_any}
use Rattle.std.specs.Map.{remove_entry}
use Rattle.std.specs.Option.{ForSome, option_map, option_map_or}
use Rattle.std.specs.Ordering.{is_eq, match_ordering, nat_cmp}
use Rattle.std.specs.declared.cmp.Ordering.TheVariants.{Less, Equal, Greater}
use Rattle.std.proofs.lemmas.Bool.{eq-eqb, eqb-true, ne_eqb, or_from, or_left, or_right}
use Rattle.std.proofs.lemmas.List.Folds.{list_any-append}
use Rattle.std.proofs.lemmas.Option.{none-some}
use Rattle.sha2.proofs.Facts256.{length-sha256}
use Rattle.outside.specs.Blobs.{Numbered, Shelf, bytes_at, standing_at, without_blob}
use Rattle.outside.specs.Told.{behind}
use Rattle.repo_model.specs.Data.{Blob}
use Rattle.repo_model.specs.History.{Entry}
use Rattle.repo_model.specs.Prints.{without_further}
use Rattle.repo_model.specs.State.{is_among}
use Rattle.repo_model.specs.Tables.{RecordedRow, Tables, names_blob}
use Rattle.blob_audit.specs.Damages.{IsWhole, print_of}
use Rattle.crash_laws.specs.Found.{AllHandOver, HasStored, IsAcknowledged, IsStored, KeepsOthers}
use Rattle.crash_laws.specs.Handed.{AllHandTold, AnyHands, AnyHandsBytes, HandOnce, HandsBytes, IsTold, acknowledged_by, call_for, call_of, handed, left_without}
use Rattle.crash_laws.specs.Stores.{StoreCall, begins, looks, number_of, numbers_changed, removes, stores, with_call, with_calls}
use Rattle.crash_laws.proofs.AllRows.{all-rows, rows-all}
use Rattle.crash_laws.proofs.Stores.{all-stay, told-there}

-- the fingerprint of a content is recorded whole
pub whole-itself : (bytes : List ℕ) → IsWhole (print_of bytes) (Some (print_of bytes))
whole-itself bytes = ap (λ (n : ℕ). Some (if n == 0 then without_further (print_of bytes) else print_of bytes)) (length-sha256 bytes)

itself : (n : ℕ) → is_eq (nat_cmp n n) ≡ true
itself n = ap is_eq (tied_itself nat_cmp_total n)

-- what stands under a number where a blob of it is stored
inserted-there : (n : ℕ) (v : List ℕ) (blobs : Numbered) → bytes_at n (insert_entry nat_cmp blobs n v) ≡ Some v
inserted-there n v [] = ap (λ b. cond b (Some v) None) (itself n)
inserted-there n v (e ∷ es) =
    elim (nat_cmp n e.0)
    as (λ o. nat_cmp n e.0 ≡ o → bytes_at n (match_ordering o ((n, v) ∷ e ∷ es) ((e.0, v) ∷ es) (e ∷ insert_entry nat_cmp es n v)) ≡ Some v) [
      | Less ↦ λ _. ap (λ b. cond b (Some v) (bytes_at n (e ∷ es))) (itself n)
      | Equal ↦ λ is. ap (λ o. cond (is_eq o) (Some v) (bytes_at n es)) is
      | Greater ↦ λ is. ap (λ o. cond (is_eq o) (Some e.1) (bytes_at n (insert_entry nat_cmp es n v))) is ∙ inserted-there n v es
    ] refl

stored-there : (shelf : Shelf) (n : ℕ) (bytes : List ℕ) (those : Numbered) → shelf.blobs ≡ Some those → standing_at n (with_call shelf (stores n bytes)) ≡ Some bytes
stored-there shelf n bytes those told =
    ap (λ (o : Option Numbered). option_and_then (bytes_at n) (option_map (λ blobs. insert_entry nat_cmp blobs n bytes) o)) told ∙ inserted-there n bytes those

-- a store that tells its blobs tells them after a call
tells-on : (shelf : Shelf) (those : Numbered) (call : StoreCall) → shelf.blobs ≡ Some those → (them : Numbered) × ((with_call shelf call).blobs ≡ Some them)
tells-on shelf those looks told = (those, told)
tells-on shelf those (begins n) told = (remove_entry (is_at (nat_cmp n)) those, ap (option_map (remove_entry (is_at (nat_cmp n)))) told)
tells-on shelf those (stores n bytes) told = (insert_entry nat_cmp those n bytes, ap (option_map (λ blobs. insert_entry nat_cmp blobs n bytes)) told)
tells-on shelf those (removes n) told = (remove_entry (is_at (nat_cmp n)) those, ap (option_map (remove_entry (is_at (nat_cmp n)))) told)

module _ (n : ℕ) where
  -- an entry that hands over no blob of the number changes none of it
  told-off : (blob : Blob) → (blob.number == n) ≡ false → (bytes : Option (List ℕ)) → is_among n (number_of (option_map_or (stores blob.number) bytes looks)) ≡ false
  told-off blob other None = refl
  told-off blob other (Some bytes) = or_from (blob.number == n) false other refl

  blob-off : (o : Option Blob) → ((option_map (λ (blob : Blob). blob.number) o ≡ Some n) → ⊥) → is_among n (number_of (option_map_or call_of o looks)) ≡ false
  blob-off None other = refl
  blob-off (Some blob) other = told-off blob (ne_eqb blob.number n (λ same. other (ap Some same))) blob.bytes

  calls-off : (entries : List Entry) → (AnyHands n entries → ⊥) → is_among n (numbers_changed (map call_for entries)) ≡ false
  calls-off [] none = refl
  calls-off (e ∷ entries) none =
      list_any-append (λ m. m == n) (number_of (call_for e)) (numbers_changed (map call_for entries))
      ∙ or_from (is_among n (number_of (call_for e))) (is_among n (numbers_changed (map call_for entries))) (blob-off (handed e.command) (λ hands. none (inl hands)))
      (calls-off entries (λ hands. none (inr hands)))

-- what an entry hands over stands after it and those that follow, where it tells its bytes
pub acknowledged-at : (shelf : Shelf) (those : Numbered) (first later : List Entry) (e : Entry) (blob : Blob) (bytes : List ℕ) → shelf.blobs ≡ Some those → HandOnce (first ++ e ∷ later)
    → handed e.command ≡ Some blob → blob.bytes ≡ Some bytes → standing_at blob.number (acknowledged_by shelf (first ++ e ∷ later)) ≡ Some bytes
acknowledged-at shelf those [] later e blob bytes told once is bytes_are =
    let n = blob.number in
    let call_is : call_for e ≡ stores n bytes = ap (λ (o : Option Blob). option_map_or call_of o looks) is ∙ ap (λ (o : Option (List ℕ)). option_map_or (stores n) o looks) bytes_are in
    let quiet = calls-off n later (once.0 n (ap (option_map (λ (b : Blob). b.number)) is)) in
    all-stay n (map call_for later) (with_call shelf (call_for e)) quiet
    ∙ subst (λ (call : StoreCall). standing_at n (with_call shelf call) ≡ Some bytes) (sym call_is) (stored-there shelf n bytes those told)
acknowledged-at shelf those (x ∷ first) later e blob bytes told once is bytes_are =
    let (them, told_then) = tells-on shelf those (call_for x) told in
    acknowledged-at (with_call shelf (call_for x)) them first later e blob bytes told_then once.1 is bytes_are

-- so does what each of them hands over
pub all-acknowledged : (shelf : Shelf) (those : Numbered) (entries : List Entry) → shelf.blobs ≡ Some those → AllHandTold entries → HandOnce entries
    → AllHandOver (acknowledged_by shelf entries) entries
all-acknowledged shelf those [] told all once = tt
all-acknowledged shelf those (e ∷ entries) told all once =
    let (them, told_then) = tells-on shelf those (call_for e) told in
    (here (handed e.command) refl all.0, all-acknowledged (with_call shelf (call_for e)) them entries told_then all.1 once.1)
  where
    here : (o : Option Blob) → handed e.command ≡ o → IfSome o IsTold → IfSome o (IsAcknowledged (acknowledged_by shelf (e ∷ entries)))
    here None is told_so = tt
    here (Some blob) is (bytes, bytes_are, print_is) =
        let (last, last_told, at) = told-there blob.number bytes (acknowledged_by shelf (e ∷ entries)).blobs (acknowledged-at shelf those [] entries e blob bytes told once is bytes_are) in
        (last, bytes, last_told, at, subst (λ (print : _). IsWhole print (Some (print_of bytes))) (sym print_is) (whole-itself bytes))

-- what is acknowledged stood before, or is of a blob that was handed over
module _ (n : ℕ) (bytes : List ℕ) where
  stored-is : (content : List ℕ) (o : Option Numbered) → option_and_then (bytes_at n) (option_map (λ blobs. insert_entry nat_cmp blobs n content) o) ≡ Some bytes → content ≡ bytes
  stored-is content None at = absurd (none-some bytes at)
  stored-is content (Some those) at = let both : Some content ≡ Some bytes = sym (inserted-there n content those) ∙ at in cc

  called-only : (shelf : Shelf) (blob : Blob) (o : Option (List ℕ)) → blob.bytes ≡ o → standing_at n (with_call shelf (option_map_or (stores blob.number) o looks)) ≡ Some bytes
      → (standing_at n shelf ≡ Some bytes) ⊎ ((blob.number ≡ n) × (blob.bytes ≡ Some bytes))
  called-only shelf blob None is at = inl at
  called-only shelf blob (Some content) is at =
      elim (blob.number == n)
      as (λ b. (blob.number == n) ≡ b → (standing_at n shelf ≡ Some bytes) ⊎ ((blob.number ≡ n) × (blob.bytes ≡ Some bytes))) [
        | true ↦ λ same.
            let it : blob.number ≡ n = eqb-true blob.number n same in
            let there = subst (λ (m : ℕ). standing_at n (with_call shelf (stores m content)) ≡ Some bytes) it at in
            inr (it, is ∙ ap Some (stored-is content shelf.blobs there))
        | false ↦ λ other. inl (sym (all-stay n (stores blob.number content ∷ []) shelf (or_from (blob.number == n) false other refl)) ∙ at)
      ] refl

  handed-only : (shelf : Shelf) (e : Entry) (o : Option Blob) → handed e.command ≡ o → standing_at n (with_call shelf (option_map_or call_of o looks)) ≡ Some bytes
      → (standing_at n shelf ≡ Some bytes) ⊎ HandsBytes n bytes e.command
  handed-only shelf e None is at = inl at
  handed-only shelf e (Some blob) is at = elim (called-only shelf blob blob.bytes refl at) [
    | inl stood ↦ inl stood
    | inr here ↦ inr (blob, is, here.0, here.1)
  ]

  pub acknowledged-only : (shelf : Shelf) (entries : List Entry) → standing_at n (acknowledged_by shelf entries) ≡ Some bytes
      → (standing_at n shelf ≡ Some bytes) ⊎ AnyHandsBytes n bytes entries
  acknowledged-only shelf [] at = inl at
  acknowledged-only shelf (e ∷ entries) at = elim (acknowledged-only (with_call shelf (call_for e)) entries at) [
    | inl stood ↦ elim (handed-only shelf e (handed e.command) refl stood) [
      | inl was ↦ inl was
      | inr here ↦ inr (inl here)
    ]
    | inr any ↦ inr (inr any)
  ]

-- what is handed over once stands after all
module _ (n : ℕ) (bytes : List ℕ) where
  pub acknowledged-bytes : (shelf : Shelf) (those : Numbered) (entries : List Entry) → shelf.blobs ≡ Some those → HandOnce entries → AnyHandsBytes n bytes entries
      → standing_at n (acknowledged_by shelf entries) ≡ Some bytes
  acknowledged-bytes shelf those [] told once any = absurd any
  acknowledged-bytes shelf those (e ∷ entries) told once (inl (blob, is, number_is, bytes_are)) =
      subst (λ (m : ℕ). standing_at m (acknowledged_by shelf (e ∷ entries)) ≡ Some bytes) number_is (acknowledged-at shelf those [] entries e blob bytes told once is bytes_are)
  acknowledged-bytes shelf those (e ∷ entries) told once (inr any) =
      let (them, told_then) = tells-on shelf those (call_for e) told in
      acknowledged-bytes (with_call shelf (call_for e)) them entries told_then once.1 any

-- what is stored removes nothing
bytes-still : (shelf : Shelf) (n : ℕ) (o : Option (List ℕ)) → (with_call shelf (option_map_or (stores n) o looks)).removed ≡ shelf.removed
bytes-still shelf n None = refl
bytes-still shelf n (Some bytes) = refl

blob-still : (shelf : Shelf) (o : Option Blob) → (with_call shelf (option_map_or call_of o looks)).removed ≡ shelf.removed
blob-still shelf None = refl
blob-still shelf (Some blob) = bytes-still shelf blob.number blob.bytes

calls-still : (shelf : Shelf) (entries : List Entry) → (acknowledged_by shelf entries).removed ≡ shelf.removed
calls-still shelf [] = refl
calls-still shelf (e ∷ entries) = calls-still (with_call shelf (call_for e)) entries ∙ blob-still shelf (handed e.command)

removes-on : (gone earlier : List ℕ) (shelf : Shelf) → shelf.removed ≡ Some earlier → (with_calls shelf (map removes gone)).removed ≡ Some (earlier ++ gone)
removes-on [] earlier shelf told = told ∙ ap Some (sym (append-nil earlier))
removes-on (n ∷ gone) earlier shelf told =
    removes-on gone (earlier ++ n ∷ []) (without_blob n shelf) (ap (λ (o : Option (List ℕ)). behind o (n ∷ [])) told) ∙ ap Some (append_assoc earlier (n ∷ []) gone)

pub removed-then : (gone earlier : List ℕ) (shelf : Shelf) (entries : List Entry) → shelf.removed ≡ Some earlier → (left_without gone shelf entries).removed ≡ Some (earlier ++ gone)
removed-then gone earlier shelf entries told = removes-on gone earlier (acknowledged_by shelf entries) (calls-still shelf entries ∙ told)

-- a store that has removed blobs of some numbers keeps the others
removed-all : (gone : List ℕ) → numbers_changed (map removes gone) ≡ gone
removed-all [] = refl
removed-all (n ∷ gone) = ap (λ (ns : List ℕ). n ∷ ns) (removed-all gone)

pub others-kept : (gone : List ℕ) (shelf : Shelf) → KeepsOthers gone shelf (with_calls shelf (map removes gone))
others-kept gone shelf = there (with_calls shelf (map removes gone)).blobs refl
  where
    there : (o : Option Numbered) → (with_calls shelf (map removes gone)).blobs ≡ o
        → IfSome o (λ them. ForSome shelf.blobs (λ those. (n : ℕ) (bytes : List ℕ) → is_among n gone ≡ false → bytes_at n those ≡ Some bytes → bytes_at n them ≡ Some bytes))
    there None is = tt
    there (Some them) is = λ those told n bytes off at.
        let stays : standing_at n (with_calls shelf (map removes gone)) ≡ standing_at n shelf = all-stay n (map removes gone) shelf (ap (is_among n) (removed-all gone) ∙ off) in
        sym (ap (option_and_then (bytes_at n)) is) ∙ stays ∙ ap (option_and_then (bytes_at n)) told ∙ at

-- a file that was stored is so still, where none of the entries hands over a blob of its number
module _ (shelf : Shelf) (entries : List Entry) where
  still-stored : (r : RecordedRow) → (AnyHands r.row.blob.number entries → ⊥) → IsStored shelf r → IsStored (acknowledged_by shelf entries) r
  still-stored r none (those, bytes, told, at, is_whole) =
      let n = r.row.blob.number in
      let stood : standing_at n shelf ≡ Some bytes = ap (option_and_then (bytes_at n)) told ∙ at in
      let (them, told_then, there) = told-there n bytes (acknowledged_by shelf entries).blobs (all-stay n (map call_for entries) shelf (calls-off n entries none) ∙ stood) in
      (them, bytes, told_then, there, is_whole)

  rows-stored : (rows : List RecordedRow) → ((n : ℕ) → list_any (λ (r : RecordedRow). r.row.blob.number == n) rows ≡ true → AnyHands n entries → ⊥) → AllByRecursion (IsStored shelf) rows
      → AllByRecursion (IsStored (acknowledged_by shelf entries)) rows
  rows-stored [] none all = tt
  rows-stored (r ∷ rows) none all =
      let n = r.row.blob.number in (
        still-stored r (none n (or_left (n == n) (list_any (λ (x : RecordedRow). x.row.blob.number == n) rows) (eq-eqb n n refl))) all.0,
        rows-stored rows (λ m named. none m (or_right (n == m) (list_any (λ (x : RecordedRow). x.row.blob.number == m) rows) named)) all.1,
      )

pub recorded-stored : (shelf : Shelf) (t : Tables) (entries : List Entry) → ((n : ℕ) → IsTrue (names_blob n t) → AnyHands n entries → ⊥) → HasStored shelf t
    → HasStored (acknowledged_by shelf entries) t
recorded-stored shelf t entries none stored =
    let names : ℕ → RecordedRow → Bool = λ n r. r.row.blob.number == n in
    let (hosted, cached) = all-rows (IsStored shelf) t stored in
    rows-all (IsStored (acknowledged_by shelf entries)) t
    (rows-stored shelf entries t.hosted (λ n named. none n (or_left (list_any (names n) t.hosted) (list_any (names n) t.cached) named)) hosted)
    (rows-stored shelf entries t.cached (λ n named. none n (or_right (list_any (names n) t.hosted) (list_any (names n) t.cached) named)) cached)
