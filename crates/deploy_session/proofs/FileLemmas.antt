-- Staged files in the entries of an ordered map.
use Rattle.std.proofs.Common.{◌≡◌, ℕ, Bool, true, false, cond, not, ◌||◌, length, nat_le, nat_lt, is_some, arith, List, [], ◌∷◌, ◌++◌, map, Option, Some, None, option_map, String, Global, string_bytes, Bor, Ordering, Less, Equal, Greater, is_eq, nat_cmp, refl, sym, ◌∙◌, ap, bytes_eq}
use Rattle.std.proofs.lemmas.Map.Text.{is_eq-slice_cmp}
use Rattle.std.proofs.lemmas.Slice.Eq.{bytes_eq-Decides}
use Rattle.std.proofs.lemmas.Bool.{false_from_ne_true, both_ways}
use Rattle.std.proofs.lemmas.List.{map-append}
use Rattle.std.proofs.lemmas.Option.{none-some}
use Rattle.std.specs.Cmp.Lexicographic.{slice_cmp}
use Rattle.std.specs.Ordering.{match_ordering}
use Rattle.std.specs.Prelude.{find}
use Rattle.std.specs.Map.{lookup}
use Rattle.std.specs.Map.Iter.{deref_pair}
use Rattle.std.specs.Option.{option_copied}
use Rattle.std.specs.BTreeMap.{is_at, insert_entry}
use Rattle.std.specs.String.{string_cmp}
use Rattle.outside.specs.declared.parcels.Parcel.{Parcel}
use Rattle.outside.specs.declared.stores.Held.{Ghosts}
use Rattle.repo_model.specs.Data.{Blob, Staged}
use Rattle.repo_model.specs.Effect.{with_staged}
use Rattle.repo_model.specs.Shown.{shown_parcel}
use Rattle.repo_model.specs.State.{is_staged, most_staged}
use Rattle.repo_model.specs.Turn.{has_room, staged_at}
use Rattle.std.specs.List.{list_any}
use Rattle.std.proofs.lemmas.Bool.Decides.{nat_tests}
use Rattle.deploy_session.specs.Shown.{shown_file, shown_files}

abbrev pub at_text : List ℕ → String Global → Bool
at_text path k = is_at (λ x. slice_cmp nat_cmp path (string_bytes x)) k

-- the test of the map and that of the files
same_test : (path key : List ℕ) → is_eq (slice_cmp nat_cmp path key) ≡ bytes_eq key path
same_test path key =
    is_eq-slice_cmp path key ∙ elim (bytes_eq path key) as (λ b. bytes_eq path key ≡ b → b ≡ bytes_eq key path) [
      | true ↦ λ is. sym ((bytes_eq-Decides key path).1 (sym ((bytes_eq-Decides path key).0 is)))
      | false ↦ λ not. sym (false_from_ne_true (bytes_eq key path) (λ is. both_ways (bytes_eq path key) not ((bytes_eq-Decides path key).1 (sym ((bytes_eq-Decides key path).0 is)))))
    ] refl

pub option_map-copied : {A B : Type 0} (f : A → B) (o : Option (Bor A)) → option_map (λ r. f r.now) o ≡ option_map f (option_copied o)
option_map-copied f None = refl
option_map-copied f (Some x) = refl

module _ {X : Type 0} {G : Ghosts X} where
  -- what the map finds at a path
  pub found : (path : List ℕ) (es : List (String Global × Parcel X G)) → option_map shown_parcel (lookup (at_text path) es) ≡ staged_at path (shown_files es)
  found path [] = refl
  found path (e ∷ es) =
      rw (same_test path (string_bytes e.0))
      (elim (bytes_eq (string_bytes e.0) path)
      as (λ b. option_map shown_parcel (cond b (Some e.1) (lookup (at_text path) es)) ≡ option_map (λ (f : Staged). f.blob) (cond b (Some (shown_file e)) (find (is_staged path) (shown_files es)))) [
        | true ↦ refl
        | false ↦ found path es
      ])

  -- a new entry at a path that has none
  pub inserted : (path : List ℕ) (k : String Global) (v : Parcel X G) (es : List (String Global × Parcel X G)) → string_bytes k ≡ path → staged_at path (shown_files es) ≡ None
      → shown_files (insert_entry string_cmp es k v) ≡ with_staged (record { path = path; blob = shown_parcel v }) (shown_files es)
  inserted path k v [] is none = ap (λ (p : List ℕ). record { path = p; blob = shown_parcel v } ∷ []) is
  inserted path k v (e ∷ es) is none =
      let new : List ℕ → Staged = λ p. record { path = p; blob = shown_parcel v } in
      let at : Bool → Option (_) = λ b. option_map (λ (f : Staged). f.blob) (cond b (Some (shown_file e)) (find (is_staged path) (shown_files es))) in
      let here : (o : Ordering) → slice_cmp nat_cmp path (string_bytes e.0) ≡ o → bytes_eq (string_bytes e.0) path ≡ is_eq o = λ o h. sym (same_test path (string_bytes e.0)) ∙ ap is_eq h in
      ap (λ p. shown_files (match_ordering (slice_cmp nat_cmp p (string_bytes e.0)) ((k, v) ∷ e ∷ es) ((e.0, v) ∷ es) (e ∷ insert_entry string_cmp es k v))) is
      ∙ elim (slice_cmp nat_cmp path (string_bytes e.0))
      as (λ o. slice_cmp nat_cmp path (string_bytes e.0) ≡ o →
      shown_files (match_ordering o ((k, v) ∷ e ∷ es) ((e.0, v) ∷ es) (e ∷ insert_entry string_cmp es k v))
      ≡ match_ordering o (new path ∷ shown_file e ∷ shown_files es) (new path ∷ shown_file e ∷ shown_files es) (shown_file e ∷ with_staged (new path) (shown_files es))) [
        | Less ↦ λ h. ap (λ p. new p ∷ shown_file e ∷ shown_files es) is
        | Equal ↦ λ h. absurd (none-some (shown_parcel e.1) (sym (sym (ap at (here Equal h)) ∙ none)))
        | Greater ↦ λ h. ap (λ files. shown_file e ∷ files) (inserted path k v es is (sym (ap at (here Greater h)) ∙ none))
      ] refl

  -- the numbers of the blobs with one more
  pub numbered : (seen : List (Bor (String Global) × Bor (Parcel X G))) (key : Bor (String Global)) (parcel : Bor (Parcel X G))
      → map (λ (f : Staged). f.blob.number) (shown_files (map deref_pair (seen ++ (key, parcel) ∷ [])))
      ≡ map (λ (f : Staged). f.blob.number) (shown_files (map deref_pair seen)) ++ parcel.now.blob ∷ []
  numbered seen key parcel =
      ap (λ es. map (λ (f : Staged). f.blob.number) (shown_files es)) (map-append deref_pair seen ((key, parcel) ∷ []))
      ∙ ap (map (λ (f : Staged). f.blob.number)) (map-append shown_file (map deref_pair seen) ((key.now, parcel.now) ∷ []))
      ∙ map-append (λ (f : Staged). f.blob.number) (shown_files (map deref_pair seen)) (shown_file (key.now, parcel.now) ∷ [])

-- a file is staged at a path where one is found there
pub any-staged : (path : List ℕ) (files : List Staged) → is_some (staged_at path files) ≡ list_any (is_staged path) files
any-staged path [] = refl
any-staged path (file ∷ files) =
    elim (is_staged path file) as (λ b. is_some (option_map (λ (f : Staged). f.blob) (cond b (Some file) (find (is_staged path) files))) ≡ (b || list_any (is_staged path) files)) [
      | true ↦ refl
      | false ↦ any-staged path files
    ]

module _ {X : Type 0} (f : X → Blob) where
  some-mapped : (o : Option X) → is_some (option_map f o) ≡ is_some o
  some-mapped None = refl
  some-mapped (Some x) = refl

  any-found : (o : Option X) (path : List ℕ) (files : List Staged) → option_map f o ≡ staged_at path files → list_any (is_staged path) files ≡ is_some o
  any-found o path files is = sym (any-staged path files) ∙ ap is_some (sym is) ∙ some-mapped o

  -- a session has room for a file at a path where it has one, or where it has few
  pub found-room : (o : Option X) (path : List ℕ) (files : List Staged) → option_map f o ≡ staged_at path files → is_some o ≡ true → has_room path files ≡ true
  found-room o path files is there = ap (λ b. b || not (nat_le most_staged (length files))) (any-found o path files is ∙ there)

  less-so : (n : ℕ) → nat_lt n most_staged ≡ not (nat_le most_staged n)
  less-so n = grind (arith, nat_tests)

  pub none-room : (o : Option X) (path : List ℕ) (files : List Staged) (n : ℕ) → option_map f o ≡ staged_at path files → is_some o ≡ false → n ≡ length files → nat_lt n most_staged ≡ has_room path files
  none-room o path files n is none many =
      less-so n ∙ ap (λ k. not (nat_le most_staged k)) many ∙ ap (λ b. b || not (nat_le most_staged (length files))) (sym (any-found o path files is ∙ none))
