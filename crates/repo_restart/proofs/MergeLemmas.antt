-- Of all recorded files those of hosted repositories stand in the order of their rows, and so do those of proxies.
use Rattle.std.proofs.Common.{◌≡◌, Bool, true, false, cond, not, List, [], ◌∷◌, map, filter, refl, ap, ◌∙◌}
use Rattle.std.specs.List.{AllByRecursion}
use Rattle.itertools.specs.List.{merge_by, merge_at}
use Rattle.repo_model.specs.Tables.{Tables, RecordedRow}
use Rattle.blob_audit.specs.Order.{File, all_files, comes_first, files_of}
use Rattle.repo_restart.specs.Rows.{cached_rows, hosted_rows}

module _ {A : Type 0} (p : A → Bool) where
  all-pass : (xs : List A) → AllByRecursion (λ x. p x ≡ true) xs → filter p xs ≡ xs
  all-pass [] all = refl
  all-pass (x ∷ xs) all = ap (λ b. cond b (x ∷ filter p xs) (filter p xs)) all.0 ∙ ap (λ rest. x ∷ rest) (all-pass xs all.1)

  none-passes : (xs : List A) → AllByRecursion (λ x. p x ≡ false) xs → filter p xs ≡ []
  none-passes [] all = refl
  none-passes (x ∷ xs) all = ap (λ b. cond b (x ∷ filter p xs) (filter p xs)) all.0 ∙ none-passes xs all.1

  module _ (first : A → A → Bool) where
    filter-at : (x : A) → p x ≡ true → (xs : List A) → AllByRecursion (λ y. p y ≡ true) xs → (after : List A → List A)
        → ((ys : List A) → AllByRecursion (λ y. p y ≡ false) ys → filter p (after ys) ≡ xs) → (ys : List A) → AllByRecursion (λ y. p y ≡ false) ys
        → filter p (merge_at first x xs after ys) ≡ x ∷ xs
    filter-at x is xs all after so [] none = all-pass (x ∷ xs) (is, all)
    filter-at x is xs all after so (y ∷ ys) none =
        let later = after (y ∷ ys) in
        let behind = merge_at first x xs after ys in
        elim (first x y) as (λ b. filter p (cond b (x ∷ later) (y ∷ behind)) ≡ x ∷ xs) [
          | true ↦ ap (λ b. cond b (x ∷ filter p later) (filter p later)) is ∙ ap (λ rest. x ∷ rest) (so (y ∷ ys) none)
          | false ↦ ap (λ b. cond b (y ∷ filter p behind) (filter p behind)) none.0 ∙ filter-at x is xs all after so ys none.1
        ]

    -- a merge keeps the order of a list that alone passes a test
    pub filter-merge : (xs ys : List A) → AllByRecursion (λ x. p x ≡ true) xs → AllByRecursion (λ y. p y ≡ false) ys → filter p (merge_by first xs ys) ≡ xs
    filter-merge [] ys all none = none-passes ys none
    filter-merge (x ∷ xs) ys all none = filter-at x all.0 xs all.1 (merge_by first xs) (λ zs no. filter-merge xs zs all.1 no) ys none

    filter-at-other : (x : A) → p x ≡ false → (xs : List A) → AllByRecursion (λ y. p y ≡ false) xs → (after : List A → List A)
        → ((ys : List A) → AllByRecursion (λ y. p y ≡ true) ys → filter p (after ys) ≡ ys) → (ys : List A) → AllByRecursion (λ y. p y ≡ true) ys → filter p (merge_at first x xs after ys) ≡ ys
    filter-at-other x is xs none after so [] all = none-passes (x ∷ xs) (is, none)
    filter-at-other x is xs none after so (y ∷ ys) all =
        let later = after (y ∷ ys) in
        let behind = merge_at first x xs after ys in
        elim (first x y) as (λ b. filter p (cond b (x ∷ later) (y ∷ behind)) ≡ y ∷ ys) [
          | true ↦ ap (λ b. cond b (x ∷ filter p later) (filter p later)) is ∙ so (y ∷ ys) all
          | false ↦ ap (λ b. cond b (y ∷ filter p behind) (filter p behind)) all.0 ∙ ap (λ rest. y ∷ rest) (filter-at-other x is xs none after so ys all.1)
        ]

    -- and of the other list, where that one alone passes
    pub filter-merge-other : (xs ys : List A) → AllByRecursion (λ x. p x ≡ false) xs → AllByRecursion (λ y. p y ≡ true) ys → filter p (merge_by first xs ys) ≡ ys
    filter-merge-other [] ys none all = all-pass ys all
    filter-merge-other (x ∷ xs) ys none all = filter-at-other x none.0 xs none.1 (merge_by first xs) (λ zs yes. filter-merge-other xs zs none.1 yes) ys all

all-hosted : (b : Bool) (rows : List RecordedRow) → AllByRecursion (λ (f : File). f.is_hosted ≡ b) (files_of b rows)
all-hosted b [] = tt
all-hosted b (r ∷ rows) = (refl, all-hosted b rows)

rows-back : (b : Bool) (rows : List RecordedRow) → map (λ (f : File). f.row) (files_of b rows) ≡ rows
rows-back b [] = refl
rows-back b (r ∷ rows) = ap (λ rest. r ∷ rest) (rows-back b rows)

pub hosted-all : (t : Tables) → hosted_rows (all_files t) ≡ t.hosted
hosted-all t =
    ap (map (λ (f : File). f.row))
    (filter-merge (λ (f : File). f.is_hosted) comes_first (files_of true t.hosted) (files_of false t.cached) (all-hosted true t.hosted) (all-hosted false t.cached))
    ∙ rows-back true t.hosted

all-turned : (b : Bool) (rows : List RecordedRow) → AllByRecursion (λ (f : File). not f.is_hosted ≡ not b) (files_of b rows)
all-turned b [] = tt
all-turned b (r ∷ rows) = (refl, all-turned b rows)

pub cached-all : (t : Tables) → cached_rows (all_files t) ≡ t.cached
cached-all t =
    ap (map (λ (f : File). f.row))
    (filter-merge-other (λ (f : File). not f.is_hosted) comes_first (files_of true t.hosted) (files_of false t.cached) (all-turned true t.hosted) (all-turned false t.cached))
    ∙ rows-back false t.cached
