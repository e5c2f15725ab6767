-- Blobs that are removed one after another.
use Rattle.std.proofs.Common.{◌≡◌, ℕ, ◌+◌, cond, not, List, [], ◌∷◌, ◌++◌, take, drop, Option, Some, None, Result, Ok, Err, refl, sym, ap, ◌∙◌}
use Rattle.std.proofs.lemmas.List.{take-append-drop}
use Rattle.std.proofs.lemmas.List.Elements.{filter-append}
use Rattle.std.specs.Prelude.{OnErr}
use Rattle.outside.specs.Blobs.{Shelf, numbers_of}
use Rattle.outside.specs.Told.{IsWhereTold}
use Rattle.repo_model.specs.Restart.{greatest_number}
use Rattle.repo_model.specs.State.{is_among}
use Rattle.repo_restart.specs.Leftovers.{Clears, ClearsFront, left_over, without_blobs}

-- those so far and the others
pub gone-parts : (named stored : List ℕ) (i : ℕ) → left_over named stored ≡ left_over named (take i stored) ++ left_over named (drop i stored)
gone-parts named stored i =
    ap (left_over named) (sym (take-append-drop i stored)) ∙ filter-append (λ m. not (is_among m named)) (take i stored) (drop i stored)

-- the same numbers in another order
pub left-over-same : (named sorted : List ℕ) → ((n : ℕ) → is_among n sorted ≡ is_among n named) → (stored : List ℕ) → left_over sorted stored ≡ left_over named stored
left-over-same named sorted same [] = refl
left-over-same named sorted same (n ∷ stored) =
    λ i. cond (not (same n i)) (n ∷ left-over-same named sorted same stored i) (left-over-same named sorted same stored i)

-- numbers that a store gives, whether it tells them or not
told-or-none : (shelf : Shelf) → (stored : List ℕ) × IsWhereTold (numbers_of shelf) stored
told-or-none shelf = by (numbers_of shelf)
  where
    by : (told : Option (List ℕ)) → (stored : List ℕ) × IsWhereTold told stored
    by None = ([], tt)
    by (Some them) = (them, refl)

-- nothing is removed
pub clears-none : (named : List ℕ) (old new : Shelf) → new ≡ old → ClearsFront named old new
clears-none named old new same =
    let given = told-or-none old in
    record { stored = given.0; gone = []; rest = left_over named given.0; told = given.1; parts = refl; removed = same }

-- the first ones are removed, as they are sought in another order
pub clears-front : (named sorted stored : List ℕ) → ((n : ℕ) → is_among n sorted ≡ is_among n named) → (old now new : Shelf) → now ≡ old → IsWhereTold (numbers_of old) stored
    → (gone : List ℕ) × (rest : List ℕ) × (left_over sorted stored ≡ gone ++ rest) × (new ≡ without_blobs gone now) → ClearsFront named old new
clears-front named sorted stored same old now new kept told front = record {
  stored = stored;
  gone = front.0;
  rest = front.1;
  told = told;
  parts = sym (left-over-same named sorted same stored) ∙ front.2;
  removed = front.3 ∙ ap (without_blobs front.0) kept;
}

-- all of them are removed
pub clears : (named sorted stored : List ℕ) → ((n : ℕ) → is_among n sorted ≡ is_among n named) → (old now new : Shelf) → now ≡ old → IsWhereTold (numbers_of old) stored
    → new ≡ without_blobs (left_over sorted stored) now → (next : ℕ) → next ≡ greatest_number (named ++ stored) + 1 → Clears named old new next
clears named sorted stored same old now new kept told removed next above = record {
  stored = stored;
  told = told;
  removed = removed ∙ ap (without_blobs (left_over sorted stored)) kept ∙ ap (λ numbers. without_blobs numbers old) (left-over-same named sorted same stored);
  above = above;
}

-- what holds anyway holds at a fault
pub on-err : {T E : Type 0} {P : Type 0} (result : Result T E) → P → OnErr result P
on-err (Ok x) holds = tt
on-err (Err e) holds = holds
