-- A list in order with one more: what is found then, what all have, and that it stays in order.
use Rattle.std.proofs.Common.{◌≡◌, ℕ, Bool, true, false, cond, List, [], ◌∷◌, ◌++◌, Some, None, refl, sym, ◌∙◌, ap}
use Rattle.std.specs.Prelude.{filter, find, bytes_eq}
use Rattle.std.specs.List.{AllByRecursion}
use Rattle.std.specs.List.Sorted.{IsStrictlySortedBy}
use Rattle.std.specs.Ordering.{nat_cmp, match_ordering, ordering_then, ordering_reverse}
use Rattle.std.specs.Cmp.{IsTotalOrder, then_total, on_total}
use Rattle.std.specs.Cmp.Lexicographic.{slice_cmp, nat_list_cmp_total}
use Rattle.std.specs.declared.cmp.Ordering.{Ordering}
use Rattle.std.specs.declared.cmp.Ordering.TheVariants.{Less, Equal, Greater}
use Rattle.std.proofs.lemmas.Bool.{false≢true, and_parts, false_from_ne_true}
use Rattle.std.proofs.lemmas.Cmp.{tied_itself}
use Rattle.std.proofs.lemmas.Map.Lookups.{exact_bytes}
use Rattle.repo_model.specs.Data.{Row, Kept, Staged}
use Rattle.repo_model.specs.State.{change_where, row_at}
use Rattle.repo_model.specs.Effect.{with_row, with_staged, with_kept}
use Rattle.repo_model.specs.Tables.{RecordedRow, RecordedDocument, place_cmp, with_recorded, with_document}
use Rattle.repo_laws.specs.Holds.{row_cmp, document_cmp}
use Rattle.repo_laws.specs.Items.{is_place}
use Rattle.repo_laws.proofs.HoldingLists.{all-change_where, all-filter, all-push, none-found}
use Rattle.repo_laws.proofs.Lists.{all-then}
use Rattle.repo_laws.proofs.Rows.{same_path, is_itself}

module _ {X : Type 0} (c : X → X → Ordering) where
  -- one more before the first that does not rank before it: beside what ties with it, or in its place
  abbrev pub inserted : Bool → X → List X → List X
  inserted beside new [] = new ∷ []
  inserted beside new (x ∷ xs) = match_ordering (c new x) (new ∷ x ∷ xs) (new ∷ cond beside (x ∷ xs) xs) (x ∷ inserted beside new xs)

  pub all-inserted : (P : X → Type 0) (beside : Bool) (new : X) (xs : List X) → P new → AllByRecursion P xs → AllByRecursion P (inserted beside new xs)
  all-inserted P beside new [] here all = (here, tt)
  all-inserted P beside new (x ∷ xs) here all =
      elim (c new x) as (λ o. AllByRecursion P (match_ordering o (new ∷ x ∷ xs) (new ∷ cond beside (x ∷ xs) xs) (x ∷ inserted beside new xs))) [
        | Less ↦ (here, all)
        | Equal ↦ (here, elim beside as (λ b. AllByRecursion P (cond b (x ∷ xs) xs)) [ true ↦ all | false ↦ all.1 ])
        | Greater ↦ (all.0, all-inserted P beside new xs here all.1)
      ]

  -- what passes a test that ties pass alike, and that none passes which ranks before one that does
  pub find-inserted : (q : X → Bool) → ((x y : X) → c x y ≡ Equal → q x ≡ q y) → ((x y : X) → c x y ≡ Greater → q x ≡ true → q y ≡ false) → (beside : Bool) (new : X) (xs : List X)
      → find q (inserted beside new xs) ≡ cond (q new) (Some new) (find q xs)
  find-inserted q ties apart beside new [] = refl
  find-inserted q ties apart beside new (x ∷ xs) =
      elim (c new x)
      as (λ o. c new x ≡ o → find q (match_ordering o (new ∷ x ∷ xs) (new ∷ cond beside (x ∷ xs) xs) (x ∷ inserted beside new xs)) ≡ cond (q new) (Some new) (cond (q x) (Some x) (find q xs))) [
        | Less ↦ λ _. refl
        | Equal ↦ λ tie. elim beside as (λ b. cond (q new) (Some new) (find q (cond b (x ∷ xs) xs)) ≡ cond (q new) (Some new) (cond (q x) (Some x) (find q xs))) [
          | true ↦ refl
          | false ↦ elim (q x) as (λ b. q new ≡ b → cond (q new) (Some new) (find q xs) ≡ cond (q new) (Some new) (cond b (Some x) (find q xs))) [ true ↦ λ is. rw is refl | false ↦ λ _. refl ] (ties new x tie)
        ]
        | Greater ↦ λ after.
            ap (λ found. cond (q x) (Some x) found) (find-inserted q ties apart beside new xs)
            ∙ elim (q new) as (λ b. q new ≡ b → cond (q x) (Some x) (cond b (Some new) (find q xs)) ≡ cond b (Some new) (cond (q x) (Some x) (find q xs))) [
              | true ↦ λ is. rw (apart new x after is) refl
              | false ↦ λ _. refl
            ] refl
      ] refl

  -- a change that leaves each in its place
  pub change-ordered : (q : X → Bool) (f : X → X) → ((x y : X) → c (f x) y ≡ c x y) → ((x y : X) → c x (f y) ≡ c x y) → (xs : List X) → IsStrictlySortedBy c xs → IsStrictlySortedBy c (change_where q f xs)
  unfolding IsStrictlySortedBy
  change-ordered q f left right [] rising = tt
  change-ordered q f left right (x ∷ xs) rising =
      let after : AllByRecursion (λ y. c x y ≡ Less) (change_where q f xs) = all-change_where (λ y. c x y ≡ Less) q f (λ y before. right x y ∙ before) xs rising.0 in (
        elim (q x) as (λ b. AllByRecursion (λ y. c (cond b (f x) x) y ≡ Less) (change_where q f xs)) [
          | true ↦ all-then (λ y. c x y ≡ Less) (λ y. c (f x) y ≡ Less) (λ y before. left x y ∙ before) (change_where q f xs) after
          | false ↦ after
        ],
        change-ordered q f left right xs rising.1,
      )

  pub push-ordered : (xs : List X) (x : X) → IsStrictlySortedBy c xs → AllByRecursion (λ y. c y x ≡ Less) xs → IsStrictlySortedBy c (xs ++ x ∷ [])
  unfolding IsStrictlySortedBy
  push-ordered [] x rising all = (tt, tt)
  push-ordered (y ∷ xs) x rising all = (all-push (λ z. c y z ≡ Less) xs x rising.0 all.0, push-ordered xs x rising.1 all.1)

  module _ (order : IsTotalOrder c) where
    turned : (o : Ordering) → ordering_reverse o ≡ Greater → o ≡ Less
    turned Less is = refl
    turned o is = cc

    pub before-it : (x y : X) → c x y ≡ Greater → c y x ≡ Less
    before-it x y is = turned (c y x) (sym (order.antisymm x y) ∙ is)

    pub after-all : (x y : X) (xs : List X) → c x y ≡ Less → AllByRecursion (λ z. c y z ≡ Less) xs → AllByRecursion (λ z. c x z ≡ Less) xs
    after-all x y xs before = all-then (λ z. c y z ≡ Less) (λ z. c x z ≡ Less) (λ z. order.trans x y z before) xs

    pub filter-ordered : (q : X → Bool) (xs : List X) → IsStrictlySortedBy c xs → IsStrictlySortedBy c (filter q xs)
    unfolding IsStrictlySortedBy
    filter-ordered q [] rising = tt
    filter-ordered q (x ∷ xs) rising =
        elim (q x) as (λ b. IsStrictlySortedBy c (cond b (x ∷ filter q xs) (filter q xs))) [
          | true ↦ (all-filter (λ y. c x y ≡ Less) q xs rising.0, filter-ordered q xs rising.1)
          | false ↦ filter-ordered q xs rising.1
        ]

    -- where it takes a place of its own, or that of what ties with it
    pub inserted-ordered : (beside : Bool) (new : X) (xs : List X) → (beside ≡ true → AllByRecursion (λ x. c new x ≡ Equal → ⊥) xs) → IsStrictlySortedBy c xs → IsStrictlySortedBy c (inserted beside new xs)
    unfolding IsStrictlySortedBy
    inserted-ordered beside new [] free rising = (tt, tt)
    inserted-ordered beside new (x ∷ xs) free rising =
        elim (c new x)
        as (λ o. c new x ≡ o → IsStrictlySortedBy c (match_ordering o (new ∷ x ∷ xs) (new ∷ cond beside (x ∷ xs) xs) (x ∷ inserted beside new xs))) [
          | Less ↦ λ before. ((before, after-all new x xs before rising.0), rising)
          | Equal ↦ λ tie. elim beside as (λ b. (b ≡ true → AllByRecursion (λ y. c new y ≡ Equal → ⊥) (x ∷ xs)) → IsStrictlySortedBy c (new ∷ cond b (x ∷ xs) xs)) [
            | true ↦ λ none. absurd ((none refl).0 tie)
            | false ↦ λ _. (all-then (λ y. c x y ≡ Less) (λ y. c new y ≡ Less) (λ y after. order.congr new x y tie ∙ after) xs rising.0, rising.1)
          ] free
          | Greater ↦ λ behind. (all-inserted (λ y. c x y ≡ Less) beside new xs (before-it new x behind) rising.0, inserted-ordered beside new xs (λ is. (free is).1) rising.1)
        ] refl

-- in byte order of a text
module _ {X : Type 0} (key : X → List ℕ) where
  abbrev pub by_key : X → X → Ordering
  by_key x y = slice_cmp nat_cmp (key x) (key y)

  pub key-order : IsTotalOrder by_key
  key-order = on_total key nat_list_cmp_total

  pub find-keyed : (beside : Bool) (path : List ℕ) (new : X) (xs : List X)
      → find (λ x. bytes_eq (key x) path) (inserted by_key beside new xs) ≡ cond (bytes_eq (key new) path) (Some new) (find (λ x. bytes_eq (key x) path) xs)
  find-keyed beside path =
      find-inserted by_key (λ x. bytes_eq (key x) path) (λ x y tie. ap (λ p. bytes_eq p path) (exact_bytes (key x) (key y) tie))
      (λ x y after here. false_from_ne_true (bytes_eq (key y) path)
      (λ there.
      let same : key x ≡ key y = same_path (key x) path here ∙ sym (same_path (key y) path there) in
      let tied : by_key x y ≡ Equal = ap (λ p. slice_cmp nat_cmp (key x) p) (sym same) ∙ tied_itself key-order x in
      let wrong : Greater ≡ Equal = sym after ∙ tied in cc)) beside

  -- where none has its text, it ties with none
  pub free-keyed : (new : X) (xs : List X) → find (λ x. bytes_eq (key x) (key new)) xs ≡ None → AllByRecursion (λ x. by_key new x ≡ Equal → ⊥) xs
  free-keyed new xs none =
      all-then (λ x. bytes_eq (key x) (key new) ≡ false) (λ x. by_key new x ≡ Equal → ⊥)
      (λ x other tie. false≢true (sym other ∙ ap (λ p. bytes_eq (key x) p) (exact_bytes (key new) (key x) tie) ∙ is_itself (key x))) xs (none-found (λ x. bytes_eq (key x) (key new)) xs none)

-- in the order of places
module _ {X : Type 0} (repo_of path_of : X → List ℕ) where
  abbrev pub by_place : X → X → Ordering
  by_place x y = place_cmp (repo_of x) (path_of x) (repo_of y) (path_of y)

  pub place-order : IsTotalOrder by_place
  place-order = then_total (on_total repo_of nat_list_cmp_total) (on_total path_of nat_list_cmp_total)

  then-equal : (a b : Ordering) → ordering_then a b ≡ Equal → (a ≡ Equal) × (b ≡ Equal)
  then-equal Equal b is = (refl, is)
  then-equal a b is = absurd (cc)

  -- what ties with a place is of that place
  pub same-place : (x y : X) → by_place x y ≡ Equal → (repo_of x ≡ repo_of y) × (path_of x ≡ path_of y)
  same-place x y is =
      let (repos, paths) = then-equal (slice_cmp nat_cmp (repo_of x) (repo_of y)) (slice_cmp nat_cmp (path_of x) (path_of y)) is in
      (exact_bytes (repo_of x) (repo_of y) repos, exact_bytes (path_of x) (path_of y) paths)

  abbrev at_place : List ℕ → List ℕ → X → Bool
  at_place id at x = is_place (repo_of x) (path_of x) id at

  alike : (id at : List ℕ) (x y : X) → repo_of x ≡ repo_of y → path_of x ≡ path_of y → at_place id at x ≡ at_place id at y
  alike id at x y repos paths = ap (λ r. is_place r (path_of x) id at) repos ∙ ap (λ p. is_place (repo_of y) p id at) paths

  pub find-placed : (beside : Bool) (id at : List ℕ) (new : X) (xs : List X)
      → find (λ x. is_place (repo_of x) (path_of x) id at) (inserted by_place beside new xs) ≡ cond (is_place (repo_of new) (path_of new) id at) (Some new) (find (λ x. is_place (repo_of x) (path_of x) id at) xs)
  find-placed beside id at =
      find-inserted by_place (at_place id at) (λ x y tie. let (repos, paths) = same-place x y tie in alike id at x y repos paths)
      (λ x y after here. false_from_ne_true (at_place id at y)
      (λ there.
      let (repo, path) = and_parts (bytes_eq (repo_of x) id) (bytes_eq (path_of x) at) here in
      let (repo_too, path_too) = and_parts (bytes_eq (repo_of y) id) (bytes_eq (path_of y) at) there in
      let repos : repo_of y ≡ repo_of x = same_path (repo_of y) id repo_too ∙ sym (same_path (repo_of x) id repo) in
      let paths : path_of y ≡ path_of x = same_path (path_of y) at path_too ∙ sym (same_path (path_of x) at path) in
      let tied : by_place x y ≡ Equal =
      ap (λ r. place_cmp (repo_of x) (path_of x) r (path_of y)) repos ∙ ap (λ p. place_cmp (repo_of x) (path_of x) (repo_of x) p) paths ∙ tied_itself place-order x in
      let wrong : Greater ≡ Equal = sym after ∙ tied in cc)) beside

-- the lists of the machine and of the tables
abbrev pub row_order : Row → Row → Ordering
row_order = by_key (λ (r : Row). r.path)

pub with_row-is : (new : Row) (rows : List Row) → with_row new rows ≡ inserted row_order true new rows
with_row-is new [] = refl
with_row-is new (r ∷ rows) = ap (λ rest. match_ordering (row_order new r) (new ∷ r ∷ rows) (new ∷ r ∷ rows) (r ∷ rest)) (with_row-is new rows)

abbrev pub file_order : Staged → Staged → Ordering
file_order = by_key (λ (f : Staged). f.path)

pub with_staged-is : (new : Staged) (files : List Staged) → with_staged new files ≡ inserted file_order true new files
with_staged-is new [] = refl
with_staged-is new (f ∷ files) = ap (λ rest. match_ordering (file_order new f) (new ∷ f ∷ files) (new ∷ f ∷ files) (f ∷ rest)) (with_staged-is new files)

abbrev kept_order : Kept → Kept → Ordering
kept_order = by_key (λ (k : Kept). k.path)

pub with_kept-is : (new : Kept) (kept : List Kept) → with_kept new kept ≡ inserted kept_order false new kept
with_kept-is new [] = refl
with_kept-is new (k ∷ kept) = ap (λ rest. match_ordering (kept_order new k) (new ∷ k ∷ kept) (new ∷ kept) (k ∷ rest)) (with_kept-is new kept)

pub with_recorded-is : (new : RecordedRow) (rows : List RecordedRow) → with_recorded new rows ≡ inserted row_cmp true new rows
with_recorded-is new [] = refl
with_recorded-is new (r ∷ rows) = ap (λ rest. match_ordering (row_cmp new r) (new ∷ r ∷ rows) (new ∷ r ∷ rows) (r ∷ rest)) (with_recorded-is new rows)

pub with_document-is : (new : RecordedDocument) (documents : List RecordedDocument) → with_document new documents ≡ inserted document_cmp false new documents
with_document-is new [] = refl
with_document-is new (d ∷ documents) = ap (λ rest. match_ordering (document_cmp new d) (new ∷ d ∷ documents) (new ∷ documents) (d ∷ rest)) (with_document-is new documents)

-- the row at a path once there is one more
pub row-found : (path : List ℕ) (new : Row) (rows : List Row) → row_at path (with_row new rows) ≡ cond (bytes_eq new.path path) (Some new) (row_at path rows)
row-found path new rows = ap (row_at path) (with_row-is new rows) ∙ find-keyed (λ (r : Row). r.path) true path new rows
