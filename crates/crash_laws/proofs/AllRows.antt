-- What all rows of tables have, the hosted ones and the cached ones have, and the other way round.
use Rattle.std.proofs.Common.{Bool, true, false, cond, List, [], ◌∷◌, map}
use Rattle.std.specs.List.{AllByRecursion}
use Rattle.itertools.specs.List.{merge_at, merge_by}
use Rattle.repo_model.specs.Tables.{RecordedRow, Tables}
use Rattle.blob_audit.specs.Order.{File, all_files, all_rows, comes_first, files_of}

module _ {X Y : Type 0} (P : Y → Type 0) (f : X → Y) where
  all-map : (xs : List X) → AllByRecursion (λ x. P (f x)) xs → AllByRecursion P (map f xs)
  all-map [] all = tt
  all-map (x ∷ xs) all = (all.0, all-map xs all.1)

  map-all : (xs : List X) → AllByRecursion P (map f xs) → AllByRecursion (λ x. P (f x)) xs
  map-all [] all = tt
  map-all (x ∷ xs) all = (all.0, map-all xs all.1)

module _ {A : Type 0} (P : A → Type 0) (first : A → A → Bool) where
  all-at : (x : A) → P x → (xs : List A) → AllByRecursion P xs → (after : List A → List A) → ((ys : List A) → AllByRecursion P ys → AllByRecursion P (after ys))
      → (ys : List A) → AllByRecursion P ys → AllByRecursion P (merge_at first x xs after ys)
  all-at x is xs all after so [] more = (is, all)
  all-at x is xs all after so (y ∷ ys) more =
      elim (first x y) as (λ b. AllByRecursion P (cond b (x ∷ after (y ∷ ys)) (y ∷ merge_at first x xs after ys))) [
        | true ↦ (is, so (y ∷ ys) more)
        | false ↦ (more.0, all-at x is xs all after so ys more.1)
      ]

  -- what holds of all of two lists holds of all of their merge
  all-merge : (xs ys : List A) → AllByRecursion P xs → AllByRecursion P ys → AllByRecursion P (merge_by first xs ys)
  all-merge [] ys all more = more
  all-merge (x ∷ xs) ys all more = all-at x all.0 xs all.1 (merge_by first xs) (λ zs so. all-merge xs zs all.1 so) ys more

  at-all : (x : A) (xs : List A) (after : List A → List A) → ((ys : List A) → AllByRecursion P (after ys) → AllByRecursion P xs × AllByRecursion P ys)
      → (ys : List A) → AllByRecursion P (merge_at first x xs after ys) → AllByRecursion P (x ∷ xs) × AllByRecursion P ys
  at-all x xs after so [] all = (all, tt)
  at-all x xs after so (y ∷ ys) all =
      elim (first x y)
      as (λ b. AllByRecursion P (cond b (x ∷ after (y ∷ ys)) (y ∷ merge_at first x xs after ys)) → AllByRecursion P (x ∷ xs) × AllByRecursion P (y ∷ ys)) [
        | true ↦ λ both. let (left, right) = so (y ∷ ys) both.1 in ((both.0, left), right)
        | false ↦ λ both. let (left, right) = at-all x xs after so ys both.1 in (left, (both.0, right))
      ] all

  -- and the other way round
  merge-all : (xs ys : List A) → AllByRecursion P (merge_by first xs ys) → AllByRecursion P xs × AllByRecursion P ys
  merge-all [] ys all = (tt, all)
  merge-all (x ∷ xs) ys all = at-all x xs (merge_by first xs) (λ zs both. merge-all xs zs both) ys all

module _ (P : RecordedRow → Type 0) (t : Tables) where
  abbrev IsSo : File → Type 0
  IsSo f = P f.row

  pub rows-all : AllByRecursion P t.hosted → AllByRecursion P t.cached → AllByRecursion P (all_rows t)
  rows-all hosted cached =
      all-map P (λ (f : File). f.row) (all_files t)
      (all-merge IsSo comes_first (files_of true t.hosted) (files_of false t.cached)
      (all-map IsSo (λ (r : RecordedRow). record { is_hosted = true; row = r }) t.hosted hosted)
      (all-map IsSo (λ (r : RecordedRow). record { is_hosted = false; row = r }) t.cached cached))

  pub all-rows : AllByRecursion P (all_rows t) → AllByRecursion P t.hosted × AllByRecursion P t.cached
  all-rows all =
      let (hosted, cached) =
      merge-all IsSo comes_first (files_of true t.hosted) (files_of false t.cached) (map-all P (λ (f : File). f.row) (all_files t) all) in (
        map-all IsSo (λ (r : RecordedRow). record { is_hosted = true; row = r }) t.hosted hosted,
        map-all IsSo (λ (r : RecordedRow). record { is_hosted = false; row = r }) t.cached cached,
      )
