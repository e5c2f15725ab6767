-- A store that keeps what it acknowledged, but for what was given out, has no damaged file where no row names that.
use Rattle.std.proofs.Common.{◌≡◌, ℕ, Bool, true, false, List, [], ◌∷◌, Option, Some, None, refl, sym, ap, ◌∙◌}
use Rattle.std.specs.Prelude.{◌==◌, IfSome}
use Rattle.std.specs.List.{AllByRecursion, list_any}
use Rattle.std.specs.Option.{ForSome, option_map}
use Rattle.std.proofs.lemmas.Bool.{eq-eqb, false≢true, false_from_ne_true, or_parts}
use Rattle.outside.specs.Blobs.{Numbered, Shelf, bytes_at}
use Rattle.repo_model.specs.State.{is_among}
use Rattle.repo_model.specs.Tables.{RecordedRow, Tables, names_blob}
use Rattle.blob_audit.specs.Damages.{AreDamaged, none, print_of, whole}
use Rattle.crash_laws.specs.Found.{AreStored, KeepsOthers, NameOthers, NamesNone}
use Rattle.crash_laws.proofs.AllRows.{rows-all}

module _ (gone : List ℕ) where
  abbrev IsSpared : RecordedRow → Type 0
  IsSpared r = is_among r.row.blob.number gone ≡ false

  spared-rows : (rows : List RecordedRow) → ((n : ℕ) → is_among n gone ≡ true → list_any (λ (r : RecordedRow). r.row.blob.number == n) rows ≡ false) → AllByRecursion IsSpared rows
  spared-rows [] unnamed = tt
  spared-rows (r ∷ rows) unnamed = (
    false_from_ne_true (is_among r.row.blob.number gone)
        (λ among.
        let n = r.row.blob.number in
        false≢true (sym (or_parts (n == n) (list_any (λ (x : RecordedRow). x.row.blob.number == n) rows) (unnamed n among)).0 ∙ eq-eqb n n refl)),
    spared-rows rows
        (λ n among. (or_parts (r.row.blob.number == n) (list_any (λ (x : RecordedRow). x.row.blob.number == n) rows) (unnamed n among)).1),
  )

  -- tables that name none of some blobs, of each of which it is known
  pub none-named : (t : Tables) → ((n : ℕ) → is_among n gone ≡ true → names_blob n t ≡ false) → NamesNone gone t
  none-named t unnamed =
      let names : ℕ → RecordedRow → Bool = λ n r. r.row.blob.number == n in
      rows-all IsSpared t (spared-rows t.hosted (λ n among. (or_parts (list_any (names n) t.hosted) (list_any (names n) t.cached) (unnamed n among)).0))
      (spared-rows t.cached (λ n among. (or_parts (list_any (names n) t.hosted) (list_any (names n) t.cached) (unnamed n among)).1))

  -- what such a store has under a number
  found-still : (acknowledged : Shelf) (n : ℕ) (those : List (ℕ × List ℕ)) (bytes : List ℕ) → acknowledged.blobs ≡ Some those → bytes_at n those ≡ Some bytes → is_among n gone ≡ false → (o : Option Numbered)
      → IfSome o (λ them. ForSome acknowledged.blobs (λ those. (m : ℕ) (content : List ℕ) → is_among m gone ≡ false → bytes_at m those ≡ Some content → bytes_at m them ≡ Some content))
      → IfSome o (λ them. Some (print_of bytes) ≡ option_map print_of (bytes_at n them))
  found-still acknowledged n those bytes told at stays None keeps = tt
  found-still acknowledged n those bytes told at stays (Some them) keeps = sym (ap (option_map print_of) (keeps those told n bytes stays at))

  pub others-whole : (acknowledged found : Shelf) → KeepsOthers gone acknowledged found → (rows : List RecordedRow) → AreStored acknowledged rows → NameOthers gone rows → AreDamaged found rows []
  others-whole acknowledged found keeps [] stored spared = none
  others-whole acknowledged found keeps (r ∷ rows) stored spared =
      let (those, bytes, told, at, is_whole) = stored.0 in
      whole r rows [] (Some (print_of bytes)) (found-still acknowledged r.row.blob.number those bytes told at spared.0 found.blobs keeps) is_whole (others-whole acknowledged found keeps rows stored.1 spared.1)
