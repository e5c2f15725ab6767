-- The first element that passes a test, and the row of a recorded file as its repository keeps it.
use Rattle.std.proofs.Common.{◌≡◌, ℕ, ◌+◌, ◌<◌, ◌≤◌, Bool, true, false, cond, not, List, [], ◌∷◌, length, find, get_or, set, Some, None, refl, sym, ap, ◌∙◌, subst, arith, suc}
use Rattle.std.specs.Prelude.{nat_lt}
use Rattle.std.specs.List.{position, position_or_len}
use Rattle.std.specs.Option.{option_map_or}
use Rattle.std.proofs.lemmas.Bool.{ltb-true, ltb-false}
use Rattle.std.proofs.lemmas.Option.{none-some}
use Rattle.outside.specs.declared.parcels.Parcel.{Parcel}
use Rattle.outside.specs.declared.stores.Held.{Ghosts}
use Rattle.repo_model.specs.Data as plain
use Rattle.repo_model.specs.Prints.{print_in}
use Rattle.repo_model.specs.Shown.{shown_parcel, shown_print}
use Rattle.repo_model.specs.State.{change_first, is_proxy, is_repository}
use Rattle.row_tables.specs.Stored.{shown_row}
use Rattle.row_tables.specs.Stored as stored
use Rattle.row_tables.specs.declared.files.FileRow.{FileRow}
use Rattle.hosted_repo.specs.Restored.{kept_row}
use Rattle.ordered_rows.specs.Rows as rows
use Rattle.ordered_rows.specs.declared.row.Phase.{Phase}
use Rattle.repo_model.specs.Effect.{new_row}
use Rattle.repo_laws.specs.Files.{files_in}
use Rattle.repo_restart.specs.Taking.{holding, rows_in}

module _ {X : Type 0} (p : X → Bool) where
  found-at : (xs : List X) (i : ℕ) → position p xs ≡ Some i → (position_or_len p xs ≡ i) × (position_or_len p xs < length xs)
  found-at xs i is = by (nat_lt (position_or_len p xs) (length xs)) refl is
    where
      by : (b : Bool) → nat_lt (position_or_len p xs) (length xs) ≡ b → cond b (Some (position_or_len p xs)) None ≡ Some i → (position_or_len p xs ≡ i) × (position_or_len p xs < length xs)
      by true within some = (cc, ltb-true (position_or_len p xs) (length xs) within)
      by false past some = absurd (none-some i some)

  found-none : (xs : List X) → position p xs ≡ None → length xs ≤ position_or_len p xs
  found-none xs is = by (nat_lt (position_or_len p xs) (length xs)) refl is
    where
      by : (b : Bool) → nat_lt (position_or_len p xs) (length xs) ≡ b → cond b (Some (position_or_len p xs)) None ≡ None → length xs ≤ position_or_len p xs
      by true within none = absurd (none-some (position_or_len p xs) (sym none))
      by false past none = ltb-false (position_or_len p xs) (length xs) past

  next : (n : ℕ) → 1 + n ≡ suc n
  next n = omega arith

  found-first : (xs : List X) (d : X) → position_or_len p xs < length xs → find p xs ≡ Some (get_or xs (position_or_len p xs) d)
  found-first [] d within = absurd (omega (arith, within))
  found-first (x ∷ xs) d within =
      let n = position_or_len p xs in
      elim (p x) as (λ b. cond (not b) (1 + n) 0 < length (x ∷ xs) → cond b (Some x) (find p xs) ≡ Some (get_or (x ∷ xs) (cond (not b) (1 + n) 0) d)) [
        | true ↦ λ _. refl
        | false ↦ λ inside. found-first xs d (omega (arith, inside)) ∙ ap (λ k. Some (get_or (x ∷ xs) k d)) (sym (next n))
      ] within

  module _ (f : X → X) where
    changed-first : (xs : List X) (d : X) → position_or_len p xs < length xs → set xs (position_or_len p xs) (f (get_or xs (position_or_len p xs) d)) ≡ change_first p f xs
    changed-first [] d within = absurd (omega (arith, within))
    changed-first (x ∷ xs) d within =
        let n = position_or_len p xs in
        elim (p x)
        as (λ b. cond (not b) (1 + n) 0 < length (x ∷ xs)
        → set (x ∷ xs) (cond (not b) (1 + n) 0) (f (get_or (x ∷ xs) (cond (not b) (1 + n) 0) d)) ≡ cond b (f x ∷ xs) (x ∷ change_first p f xs)) [
          | true ↦ λ _. refl
          | false ↦ λ inside.
              ap (λ k. set (x ∷ xs) k (f (get_or (x ∷ xs) k d))) (next n) ∙ ap (λ rest. x ∷ rest) (changed-first xs d (omega (arith, inside)))
        ] within

    pub unchanged : (xs : List X) → position p xs ≡ None → change_first p f xs ≡ xs
    unchanged xs none = by xs (found-none xs none)
      where
        by : (ys : List X) → length ys ≤ position_or_len p ys → change_first p f ys ≡ ys
        by [] past = refl
        by (y ∷ ys) past =
            let n = position_or_len p ys in
            elim (p y) as (λ b. length (y ∷ ys) ≤ cond (not b) (1 + n) 0 → cond b (f y ∷ ys) (y ∷ change_first p f ys) ≡ y ∷ ys) [
              | true ↦ λ none_left. absurd (omega (arith, none_left))
              | false ↦ λ beyond. ap (λ rest. y ∷ rest) (by ys (omega (arith, beyond)))
            ] past

    pub changed-at : (xs : List X) (i : ℕ) (d : X) → position p xs ≡ Some i → set xs i (f (get_or xs i d)) ≡ change_first p f xs
    changed-at xs i d is =
        let at = found-at xs i is in
        subst (λ k. set xs k (f (get_or xs k d)) ≡ change_first p f xs) at.0 (changed-first xs d at.1)

  pub find-at : (xs : List X) (i : ℕ) (d : X) → position p xs ≡ Some i → find p xs ≡ Some (get_or xs i d)
  find-at xs i d is = let at = found-at xs i is in subst (λ k. find p xs ≡ Some (get_or xs k d)) at.0 (found-first xs d at.1)

-- the rows of the repository at a place
pub rows-at : (id : List ℕ) (repos : List plain.Hosted) (i : ℕ) (repo : plain.Hosted) → position (is_repository id) repos ≡ Some i → repo ≡ get_or repos i repo → rows_in id repos ≡ repo.rows
rows-at id repos i repo is here =
    ap (λ found. option_map_or (λ (h : plain.Hosted). h.rows) found []) (find-at (is_repository id) repos i repo is) ∙ ap (λ (h : plain.Hosted). h.rows) (sym here)

-- the files of the proxy at a place
pub files-at : (id : List ℕ) (proxies : List plain.Proxy) (i : ℕ) (p : plain.Proxy) → position (is_proxy id) proxies ≡ Some i → p ≡ get_or proxies i p → files_in id proxies ≡ p.files
files-at id proxies i p is here =
    ap (λ found. option_map_or (λ (q : plain.Proxy). q.files) found []) (find-at (is_proxy id) proxies i p is) ∙ ap (λ (q : plain.Proxy). q.files) (sym here)

-- a file that was kept with a parcel of its number and fingerprint is the recorded one, which is visible, with the parcel's bytes
pub file-is : {H : Type 0} {G : Ghosts H} (path : List ℕ) (r : FileRow) (parcel : Parcel H G) → parcel.blob ≡ r.blob → shown_print parcel ≡ print_in r.print
    → stored.shown_phase r.phase ≡ plain.listed → new_row path (shown_parcel parcel) r.accepted ≡ holding (G.bytes parcel.held) (shown_row path r)
file-is {H} {G} path r parcel number print visible = λ i. record {
  path = path;
  blob = record { number = number i; bytes = G.bytes parcel.held; print = print i };
  accepted = r.accepted;
  phase = sym visible i;
}

-- a row that was kept with a parcel of its number and fingerprint is the recorded one, with the parcel's bytes
pub kept-is : {H : Type 0} {G : Ghosts H} (path : List ℕ) (r : FileRow) (parcel : Parcel H G) (phase : Phase) → parcel.blob ≡ r.blob → shown_print parcel ≡ print_in r.print
    → rows.shown_phase phase ≡ stored.shown_phase r.phase → kept_row path (shown_parcel parcel) r.accepted phase ≡ holding (G.bytes parcel.held) (shown_row path r)
kept-is {H} {G} path r parcel phase number print same = λ i. record {
  path = path;
  blob = record { number = number i; bytes = G.bytes parcel.held; print = print i };
  accepted = r.accepted;
  phase = same i;
}
