-- A row after rows that came back: they come before it, and none of them has its blob.
use native.Mathlib.Omega.{arith}
use Rattle.std.proofs.Common.{◌≡◌, ℕ, ◌≤◌, Bool, true, false, cond, List, [], ◌∷◌, ◌++◌, map, filter, find, Option, Some, None, Ordering, Less, Equal, refl, sym, ap, ◌∙◌, nat_cmp, bytes_eq}
use Rattle.std.specs.Prelude.{◌==◌, count_by}
use Rattle.std.specs.Cmp.Lexicographic.{slice_cmp, nat_list_cmp_total}
use Rattle.std.specs.List.{AllByRecursion}
use Rattle.std.specs.List.Sorted.{IsStrictlySortedBy}
use Rattle.std.specs.Option.{option_map_or}
use Rattle.std.specs.Ordering.{ordering_then}
use Rattle.std.proofs.lemmas.Cmp.{tied_itself}
use Rattle.std.proofs.lemmas.List.Sums.{sum_by-append, sum_by-cons}
use Rattle.std.proofs.lemmas.Slice.Eq.{bytes_eq-Decides}
use Rattle.repo_model.specs.Data as plain
use Rattle.repo_model.specs.Restart.{with_bytes, is_of, recorded_of, hosted_from}
use Rattle.repo_model.specs.Settings.{Rule}
use Rattle.repo_model.specs.State.{is_repository, row_at}
use Rattle.repo_model.specs.Tables.{RecordedRow}
use Rattle.ordered_rows.proofs.LastRows.{AreBefore, none-there}
use Rattle.repo_laws.specs.Holds.{row_cmp}
use Rattle.repo_restart.specs.Taking.{rows_in}

-- what holds of each holds of one in the middle
pub among : {X : Type 0} (P : X → Type 0) (front : List X) (x : X) (rest : List X) → AllByRecursion P (front ++ x ∷ rest) → P x
among P [] x rest all = all.0
among P (y ∷ front) x rest all = among P front x rest all.1

-- of what rises, all in front of one come before it
pub in_front : {X : Type 0} (cmp : X → X → Ordering) (front : List X) (x : X) (rest : List X) → IsStrictlySortedBy cmp (front ++ x ∷ rest)
    → AllByRecursion (λ y. cmp y x ≡ Less) front
unfolding IsStrictlySortedBy
in_front cmp [] x rest rising = tt
in_front cmp (y ∷ front) x rest rising = (among (λ z. cmp y z ≡ Less) front x rest rising.0, in_front cmp front x rest rising.1)

-- in one repository the paths rise
paths-rise : (r x : RecordedRow) → r.repo ≡ x.repo → row_cmp r x ≡ Less → slice_cmp nat_cmp r.row.path x.row.path ≡ Less
paths-rise r x same less =
    let tied : slice_cmp nat_cmp r.repo x.repo ≡ Equal = ap (λ repo. slice_cmp nat_cmp repo x.repo) same ∙ tied_itself nat_list_cmp_total x.repo in
    sym (ap (λ o. ordering_then o (slice_cmp nat_cmp r.row.path x.row.path)) tied) ∙ less

module _ (tells : ℕ → Option (List ℕ)) (x : RecordedRow) where
  -- the rows of its repository come before it
  pub recorded-before : (id : List ℕ) → id ≡ x.repo → (front : List RecordedRow) → AllByRecursion (λ r. row_cmp r x ≡ Less) front
      → AreBefore x.row.path (recorded_of tells front id)
  recorded-before id same [] all = tt
  recorded-before id same (r ∷ front) all =
      let kept = filter (is_of id) front in
      let rest = recorded-before id same front all.1 in
      elim (bytes_eq r.repo id)
      as (λ b. bytes_eq r.repo id ≡ b → AreBefore x.row.path (map (λ (one : RecordedRow). with_bytes tells one.row) (cond b (r ∷ kept) kept))) [
        | true ↦ λ is. (paths-rise r x ((bytes_eq-Decides r.repo id).0 is ∙ same) all.0, rest)
        | false ↦ λ other. rest
      ] refl

  -- its path has no row there
  pub none-yet : (front : List RecordedRow) → AllByRecursion (λ r. row_cmp r x ≡ Less) front → (rules : List Rule)
      → row_at x.row.path (rows_in x.repo (map (hosted_from tells front) rules)) ≡ None
  none-yet front all [] = refl
  none-yet front all (rule ∷ rules) =
      let later = find (is_repository x.repo) (map (hosted_from tells front) rules) in
      elim (bytes_eq rule.id x.repo)
      as (λ b. bytes_eq rule.id x.repo ≡ b → row_at x.row.path (option_map_or (λ (h : plain.Hosted). h.rows) (cond b (Some (hosted_from tells front rule)) later) []) ≡ None) [
        | true ↦ λ is. none-there x.row.path (recorded_of tells front rule.id) (recorded-before rule.id ((bytes_eq-Decides rule.id x.repo).0 is) front all)
        | false ↦ λ other. none-yet front all rules
      ] refl

-- a row names the blob
abbrev pub names : ℕ → RecordedRow → Bool
names n r = r.row.blob.number == n

abbrev one_if : Bool → ℕ
one_if b = cond b 1 0

one-at-least : (n : ℕ) (front : List RecordedRow) (x : RecordedRow) (rest : List RecordedRow) → names n x ≡ true → 1 ≤ count_by (names n) (front ++ x ∷ rest)
one-at-least n front x rest is =
    let here : one_if (names n x) ≡ 1 = ap one_if is in
    omega (arith, here, sum_by-append (λ (r : RecordedRow). one_if (names n r)) front (x ∷ rest), sum_by-cons (λ (r : RecordedRow). one_if (names n r)) x rest)

-- where each blob is named once, none in front of a row names its blob
pub unnamed : (n : ℕ) (front : List RecordedRow) (x : RecordedRow) (rest : List RecordedRow) → names n x ≡ true → count_by (names n) (front ++ x ∷ rest) ≤ 1
    → AllByRecursion (λ r. names n r ≡ false) front
unnamed n [] x rest is once = tt
unnamed n (r ∷ front) x rest is once =
    let later = one-at-least n front x rest is in
    let all = sum_by-cons (λ (y : RecordedRow). one_if (names n y)) r (front ++ x ∷ rest) in
    elim (names n r) as (λ b. names n r ≡ b → (names n r ≡ false) × AllByRecursion (λ y. names n y ≡ false) front) [
      | true ↦ λ yes. let here : one_if (names n r) ≡ 1 = ap one_if yes in absurd (omega (arith, here, all, later, once))
      | false ↦ λ no. let here : one_if (names n r) ≡ 0 = ap one_if no in (no, unnamed n front x rest is (omega (arith, here, all, once)))
    ] refl
