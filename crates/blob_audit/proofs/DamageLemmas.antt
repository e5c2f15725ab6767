-- One more row after rows that were looked at.
use Rattle.std.proofs.Common.{◌≡◌, ℕ, ◌+◌, ◌<◌, List, [], ◌∷◌, ◌++◌, length, map, take, drop, get_or, Option, sym, ap, ◌∙◌, subst}
use Rattle.std.proofs.lemmas.List.{map-append, take_more, drop_more, take-append-drop}
use Rattle.outside.specs.Blobs.{Shelf}
use Rattle.repo_model.specs.Tables.{RecordedRow}
use Rattle.repo_model.specs.declared.print.Print.{Print}
use Rattle.blob_audit.specs.declared.damages.Damaged.{Damaged}
use Rattle.blob_audit.specs.Damages.{IsFirstDamaged, IsFound, IsWhole, damaged_row, AreDamaged, none, whole, damaged}

module _ (shelf : Shelf) (r : RecordedRow) (found : Option Print) (is : IsFound shelf r.row.blob.number found) where
  more-whole : {rows : List RecordedRow} {damages : List Damaged} → AreDamaged shelf rows damages → IsWhole r.row.blob.print found → AreDamaged shelf (rows ++ r ∷ []) damages
  more-whole none same = whole r [] [] found is same none
  more-whole (whole x rows damages there at alike all) same = whole x (rows ++ r ∷ []) damages there at alike (more-whole all same)
  more-whole (damaged x rows damages there at apart all) same = damaged x (rows ++ r ∷ []) damages there at apart (more-whole all same)

  more-damaged : {rows : List RecordedRow} {damages : List Damaged} → AreDamaged shelf rows damages → ¬ IsWhole r.row.blob.print found
      → AreDamaged shelf (rows ++ r ∷ []) (damages ++ damaged_row r found ∷ [])
  more-damaged none other = damaged r [] [] found is other none
  more-damaged (whole x rows damages there at alike all) other = whole x (rows ++ r ∷ []) (damages ++ damaged_row r found ∷ []) there at alike (more-damaged all other)
  more-damaged (damaged x rows damages there at apart all) other =
      damaged x (rows ++ r ∷ []) (damages ++ damaged_row r found ∷ []) there at apart (more-damaged all other)

more : {A : Type 0} (shown : A → RecordedRow) (xs : List A) (i : ℕ) (x : A) → i < length xs → x ≡ get_or xs i x → map shown (take i xs) ++ shown x ∷ [] ≡ map shown (take (i + 1) xs)
more shown xs i x within is = sym (ap (map shown) (take_more xs i x within ∙ ap (λ y. take i xs ++ y ∷ []) (sym is)) ∙ map-append shown (take i xs) (x ∷ []))

-- the first one that is damaged
pub first-damaged : {A : Type 0} (shown : A → RecordedRow) (xs : List A) (i : ℕ) (x : A) → i < length xs → x ≡ get_or xs i x → (shelf : Shelf) (damage : Damaged)
    → AreDamaged shelf (map shown (take i xs)) [] → AreDamaged shelf (shown x ∷ []) (damage ∷ []) → IsFirstDamaged shelf (map shown xs) damage
first-damaged shown xs i x within is shelf damage sound here =
    let split : xs ≡ take i xs ++ x ∷ drop (i + 1) xs =
    sym (take-append-drop i xs) ∙ ap (λ rest. take i xs ++ rest) (drop_more xs i x within ∙ ap (λ y. y ∷ drop (i + 1) xs) (sym is)) in
    (map shown (take i xs), shown x, map shown (drop (i + 1) xs), ap (map shown) split ∙ map-append shown (take i xs) (x ∷ drop (i + 1) xs), sound, here)

module _ {A : Type 0} (shown : A → RecordedRow) (xs : List A) (i : ℕ) (x : A) (within : i < length xs) (is : x ≡ get_or xs i x) {shelf now : Shelf} (kept : now ≡ shelf)
    {damages damages' : List Damaged} (all : AreDamaged shelf (map shown (take i xs)) damages) (found : Option Print) (at : IsFound now (shown x).row.blob.number found) where
  pub next-whole : IsWhole (shown x).row.blob.print found → damages' ≡ damages → AreDamaged shelf (map shown (take (i + 1) xs)) damages'
  next-whole alike same =
      subst (λ rows. AreDamaged shelf rows damages') (more shown xs i x within is)
      (subst (AreDamaged shelf (map shown (take i xs) ++ shown x ∷ [])) (sym same)
      (more-whole shelf (shown x) found (subst (λ one. IsFound one (shown x).row.blob.number found) kept at) all alike))

  pub next-damaged : ¬ IsWhole (shown x).row.blob.print found → damages' ≡ damages ++ damaged_row (shown x) found ∷ [] → AreDamaged shelf (map shown (take (i + 1) xs)) damages'
  next-damaged other behind =
      subst (λ rows. AreDamaged shelf rows damages') (more shown xs i x within is)
      (subst (AreDamaged shelf (map shown (take i xs) ++ shown x ∷ [])) (sym behind)
      (more-damaged shelf (shown x) found (subst (λ one. IsFound one (shown x).row.blob.number found) kept at) all other))
