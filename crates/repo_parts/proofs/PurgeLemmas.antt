-- What Unlist and Collect leave: effect after effect, and repository by repository.
use native.Mathlib.Omega.{arith}
use Rattle.std.proofs.Common.{◌≡◌, ℕ, ◌-◌, ◌≤◌, min, true, false, cond, List, [], ◌∷◌, ◌++◌, length, map, take, zero, suc, Some, None, refl, sym, ap, ◌∙◌, subst}
use Rattle.std.specs.Prelude.{filter, find, not, bytes_eq}
use Rattle.std.specs.List.{AllByRecursion, flat_map}
use Rattle.std.proofs.lemmas.Bool.{false≢true}
use Rattle.std.proofs.lemmas.List.{take_min, take-map}
use Rattle.std.proofs.lemmas.Option.{none-some}
use Rattle.repo_model.specs.Data.{Row, Hosted}
use Rattle.repo_model.specs.Settings.{Rule}
use Rattle.repo_model.specs.State.{State, change_first, is_repository, is_row}
use Rattle.repo_model.specs.Effect.{Effect, fades, expires, hosted_after, rows_after, with_effect, with_effects, without_row}
use Rattle.repo_model.specs.Purge.{expired_of, expire_all, is_over, most_rows}
use Rattle.repo_laws.specs.Sound.{AreNamedApart}
use Rattle.repo_laws.proofs.HoldingLists.{all-change_first, all-filter}
use Rattle.repo_laws.proofs.Lists.{all-take}
use Rattle.repo_laws.proofs.Making.{all-append}
use Rattle.repo_laws.proofs.Releases.{is_itself, other_path}
use Rattle.ordered_rows.specs.Rows.{rows_after_all}
use Rattle.repo_parts.specs.Deploys.{hosted_after_all}
use Rattle.repo_parts.specs.Hosted.{AreInUse}
use Rattle.hosted_repo.specs.Expired.{blob_of}
use Rattle.repo_parts.specs.Purge.{condemned_by, dropped_by, shares}
use Rattle.repo_parts.proofs.ListLemmas.{change-twice, same-all}
use Rattle.repo_parts.proofs.UseLemmas.{IsUsed, RowsUsed}

-- two changes of the rows of one repository
pub rows-twice : (repo : List ℕ) (f g : List Row → List Row) (hosted : List Hosted)
    → change_first (is_repository repo) (λ h. record h { rows = g h.rows }) (change_first (is_repository repo) (λ h. record h { rows = f h.rows }) hosted) ≡ change_first (is_repository repo) (λ h. record h { rows = g (f h.rows) }) hosted
rows-twice repo f g hosted = change-twice (is_repository repo) (λ (h : Hosted). record h { rows = f h.rows }) (λ (h : Hosted). record h { rows = g h.rows }) (λ h. refl) hosted

-- rows of one repository fade
module _ (repo : List ℕ) (now : ℕ) where
  abbrev pub fading_all : List Row → List Effect
  fading_all rows = map (λ row. fades repo row.path now) rows

  pub faded : (rows : List Row) (s : State) → with_effects s (fading_all rows) ≡ record s { hosted = change_first (is_repository repo) (λ h. record h { rows = rows_after_all (fading_all rows) h.rows }) s.hosted }
  faded [] s = ap (λ hs. record s { hosted = hs }) (sym (same-all (is_repository repo) s.hosted))
  faded (row ∷ rows) s =
      let one = rows_after (fades repo row.path now) in
      let s' : State = record s { hosted = change_first (is_repository repo) (λ h. record h { rows = one h.rows }) s.hosted } in
      faded rows s' ∙ ap (λ hs. record s { hosted = hs }) (rows-twice repo one (rows_after_all (fading_all rows)) s.hosted)

-- effects that take a row away
abbrev pub IsRemoval : Effect → Type 0
IsRemoval (expires repo path blob) = Unit {0}
IsRemoval effect = ⊥

pub removed : (es : List Effect) → AllByRecursion IsRemoval es → (s : State) → with_effects s es ≡ record s { hosted = hosted_after_all es s.hosted; yard = condemned_by (map blob_of es) s.yard }
removed [] all s = refl
removed (expires repo path blob ∷ es) all s = removed es all.1 (with_effect s (expires repo path blob))
removed (e ∷ es) all s = absurd all.0

module _ (grace now : ℕ) where
  abbrev goes : List ℕ → List Row → List Effect
  goes id rows = map (λ row. expires id row.path row.blob.number) rows

  -- the rows of the first repository
  at-head : (rows : List Row) (h : Hosted) (hosted : List Hosted) (id : List ℕ) → is_repository id h ≡ true
      → hosted_after_all (goes id rows) (h ∷ hosted) ≡ record h { rows = rows_after_all (goes id rows) h.rows } ∷ hosted
  at-head [] h hosted id is = refl
  at-head (row ∷ rows) h hosted id is =
      let one = rows_after (expires id row.path row.blob.number) in
      let first : Hosted = record h { rows = one h.rows } in
      ap (λ b. hosted_after_all (goes id rows) (cond b (first ∷ hosted) (h ∷ change_first (is_repository id) (λ (k : Hosted). record k { rows = one k.rows }) hosted))) is
      ∙ at-head rows first hosted id is

  -- rows of another repository
  abbrev IsElsewhere : Hosted → Effect → Type 0
  IsElsewhere h (expires repo path blob) = is_repository repo h ≡ false
  IsElsewhere h effect = ⊥

  past-head : (es : List Effect) (h : Hosted) (hosted : List Hosted) → AllByRecursion (IsElsewhere h) es → hosted_after_all es (h ∷ hosted) ≡ h ∷ hosted_after_all es hosted
  past-head [] h hosted all = refl
  past-head (expires repo path blob ∷ es) h hosted all =
      let one = rows_after (expires repo path blob) in
      ap (λ b. hosted_after_all es (cond b (record h { rows = one h.rows } ∷ hosted) (h ∷ change_first (is_repository repo) (λ (k : Hosted). record k { rows = one k.rows }) hosted))) all.0
      ∙ past-head es h (change_first (is_repository repo) (λ (k : Hosted). record k { rows = one k.rows }) hosted) all.1
  past-head (e ∷ es) h hosted all = absurd all.0

  all-elsewhere : (rows : List Row) (id : List ℕ) (h : Hosted) → is_repository id h ≡ false → AllByRecursion (IsElsewhere h) (goes id rows)
  all-elsewhere [] id h other = tt
  all-elsewhere (row ∷ rows) id h other = (other, all-elsewhere rows id h other)

  elsewhere : (h : Hosted) (hosted : List Hosted) → find (λ (rule : Rule). bytes_eq rule.id h.rule.id) (map (λ (g : Hosted). g.rule) hosted) ≡ None
      → AllByRecursion (IsElsewhere h) (flat_map (expired_of grace now) hosted)
  elsewhere h [] none = tt
  elsewhere h (g ∷ hosted) none =
      let rest = find (λ (rule : Rule). bytes_eq rule.id h.rule.id) (map (λ (k : Hosted). k.rule) hosted) in
      elim (bytes_eq g.rule.id h.rule.id) as (λ b. bytes_eq g.rule.id h.rule.id ≡ b → cond b (Some g.rule) rest ≡ None → AllByRecursion (IsElsewhere h) (flat_map (expired_of grace now) (g ∷ hosted))) [
        | true ↦ λ is found. absurd (none-some g.rule (sym found))
        | false ↦ λ is found.
            let other : bytes_eq h.rule.id g.rule.id ≡ false = other_path h.rule.id g.rule.id (λ same. false≢true (sym is ∙ ap (λ p. bytes_eq p h.rule.id) (sym same) ∙ is_itself h.rule.id)) in
            all-append (IsElsewhere h) (expired_of grace now g) (flat_map (expired_of grace now) hosted)
            (all-elsewhere (filter (λ (row : Row). is_over grace now row.phase) g.rows) g.rule.id h other) (elsewhere h hosted found)
      ] refl none

  after-both : (es fs : List Effect) (hosted : List Hosted) → hosted_after_all (es ++ fs) hosted ≡ hosted_after_all fs (hosted_after_all es hosted)
  after-both [] fs hosted = refl
  after-both (e ∷ es) fs hosted = after-both es fs (hosted_after e hosted)

  take-none : {X : Type 0} (n : ℕ) → take {A = X} n [] ≡ []
  take-none zero = refl
  take-none (suc n) = refl

  pub take-both : {X : Type 0} (k : ℕ) (xs ys : List X) → take k (xs ++ ys) ≡ take k xs ++ take (k - length xs) ys
  take-both {X} k [] ys =
      let all : k - 0 ≡ k = omega arith in
      rw (take-none {X = X} k, all) refl
  take-both zero (x ∷ xs) ys =
      let left : 0 - length (x ∷ xs) ≡ 0 = omega arith in
      rw left refl
  take-both (suc k) (x ∷ xs) ys =
      let left : suc k - suc (length xs) ≡ k - length xs = omega arith in
      rw left (ap (λ zs. x ∷ zs) (take-both k xs ys))

  -- the rows whose grace is over, repository by repository
  all-dropped : (most : ℕ) (hosted : List Hosted) → AreNamedApart (map (λ (h : Hosted). h.rule) hosted)
      → hosted_after_all (take most (flat_map (expired_of grace now) hosted)) hosted ≡ dropped_by grace now (shares grace now most hosted) hosted
  all-dropped most [] apart = ap (λ es. hosted_after_all es []) (take-none most)
  all-dropped most (h ∷ hosted) apart =
      let id = h.rule.id in
      let mine = expired_of grace now h in
      let n = min most (length mine) in
      let left = most - length mine in
      let rest = take left (flat_map (expired_of grace now) hosted) in
      let over = take n (filter (λ (row : Row). is_over grace now row.phase) h.rows) in
      let shown : take n mine ≡ goes id over = take-map (λ (row : Row). expires id row.path row.blob.number) n (filter (λ (row : Row). is_over grace now row.phase) h.rows) in
      let first : Hosted = record h { rows = rows_after_all (take n mine) h.rows } in
      let done : hosted_after_all (take n mine) (h ∷ hosted) ≡ first ∷ hosted =
      subst (λ es. hosted_after_all es (h ∷ hosted) ≡ record h { rows = rows_after_all es h.rows } ∷ hosted) (sym shown) (at-head over h hosted id (is_itself id)) in
      ap (λ es. hosted_after_all es (h ∷ hosted)) (take-both most mine (flat_map (expired_of grace now) hosted))
      ∙ after-both (take most mine) rest (h ∷ hosted)
      ∙ ap (λ es. hosted_after_all rest (hosted_after_all es (h ∷ hosted))) (sym (take_min most mine))
      ∙ ap (hosted_after_all rest) done
      ∙ past-head rest first hosted (all-take (IsElsewhere first) left (flat_map (expired_of grace now) hosted) (elsewhere first hosted apart.0))
      ∙ ap (λ hs. first ∷ hs) (all-dropped left hosted apart.1)

  goes-removals : (id : List ℕ) (rows : List Row) → AllByRecursion IsRemoval (goes id rows)
  goes-removals id [] = tt
  goes-removals id (row ∷ rows) = (tt, goes-removals id rows)

  flat-removals : (hosted : List Hosted) → AllByRecursion IsRemoval (flat_map (expired_of grace now) hosted)
  flat-removals [] = tt
  flat-removals (h ∷ hosted) =
      all-append IsRemoval (expired_of grace now h) (flat_map (expired_of grace now) hosted) (goes-removals h.rule.id (filter (λ (row : Row). is_over grace now row.phase) h.rows)) (flat-removals hosted)

  pub removals : (hosted : List Hosted) → AllByRecursion IsRemoval (expire_all grace now hosted)
  removals hosted = all-take IsRemoval most_rows (flat_map (expired_of grace now) hosted) (flat-removals hosted)

  -- what a Collect leaves of the rows and of the numbers
  pub expired-all : (s : State) → AreNamedApart (map (λ (h : Hosted). h.rule) s.hosted) → with_effects s (expire_all grace now s.hosted)
      ≡ record s { hosted = dropped_by grace now (shares grace now most_rows s.hosted) s.hosted; yard = condemned_by (map blob_of (expire_all grace now s.hosted)) s.yard }
  expired-all s apart =
      removed (expire_all grace now s.hosted) (removals s.hosted) s
      ∙ ap (λ hosted. record s { hosted = hosted; yard = condemned_by (map blob_of (expire_all grace now s.hosted)) s.yard }) (all-dropped most_rows s.hosted apart)

-- the rows that are left are in use as before
goes-unused : (kept : List ℕ) (es : List Effect) → AllByRecursion IsRemoval es → (hosted : List Hosted) → AreInUse kept hosted → AreInUse kept (hosted_after_all es hosted)
goes-unused kept [] all hosted used = used
goes-unused kept (expires repo path blob ∷ es) all hosted used =
    goes-unused kept es all.1 (hosted_after (expires repo path blob) hosted)
    (all-change_first (λ (h : Hosted). RowsUsed kept h.rows) (is_repository repo) (λ h. record h { rows = without_row path h.rows })
    (λ h rows. all-filter (IsUsed kept) (λ row. not (is_row path row)) h.rows rows) hosted used)
goes-unused kept (e ∷ es) all hosted used = absurd all.0

pub dropped-used : (grace now : ℕ) (kept : List ℕ) (hosted : List Hosted) → AreNamedApart (map (λ (h : Hosted). h.rule) hosted) → AreInUse kept hosted
    → AreInUse kept (dropped_by grace now (shares grace now most_rows hosted) hosted)
dropped-used grace now kept hosted apart used =
    subst (AreInUse kept) (all-dropped grace now most_rows hosted apart) (goes-unused kept (expire_all grace now hosted) (removals grace now hosted) hosted used)

-- no rule is changed
pub dropped-rules : (grace now : ℕ) (ns : List ℕ) (hosted : List Hosted) → length ns ≤ length hosted → map (λ (h : Hosted). h.rule) (dropped_by grace now ns hosted) ≡ map (λ (h : Hosted). h.rule) hosted
dropped-rules grace now [] hosted few = refl
dropped-rules grace now (n ∷ ns) [] few = absurd (omega arith)
dropped-rules grace now (n ∷ ns) (h ∷ hosted) few = ap (λ rules. h.rule ∷ rules) (dropped-rules grace now ns hosted (omega arith))

pub shares-length : (grace now most : ℕ) (hosted : List Hosted) → length (shares grace now most hosted) ≡ length hosted
shares-length grace now most [] = refl
shares-length grace now most (h ∷ hosted) = ap suc (shares-length grace now (most - length (expired_of grace now h)) hosted)
