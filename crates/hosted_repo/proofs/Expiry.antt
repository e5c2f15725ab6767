-- Rows that go one after the other, and all at once.
use Rattle.std.proofs.Common.{◌≡◌, ℕ, zero, suc, ◌-◌, true, false, cond, not, ◌&&◌, List, [], ◌∷◌, map, filter, take, is_eq, refl, sym, ap, ◌∙◌, arith}
use Rattle.std.proofs.lemmas.Bool.{ltb_from_iff, ltb-true, lt-ltb}
use Rattle.std.proofs.lemmas.Map.Text.{is_eq-slice_cmp}
use Rattle.std.proofs.lemmas.Slice.Eq.{bytes_eq-Decides}
use Rattle.repo_model.specs.Data as plain
use Rattle.repo_model.specs.Effect.{Effect, expires, without_row}
use Rattle.repo_model.specs.Purge.{is_over}
use Rattle.ordered_rows.specs.Rows.{is_before, goes, without_first, rows_after_all}
use Rattle.ordered_rows.proofs.MapLemmas.{same_test}
use Rattle.ordered_rows.proofs.Rising.{AreAfter, AreRising}

abbrev gone : ℕ → ℕ → List ℕ → List plain.Row → List Effect
gone grace now repo rows = map (λ row. expires repo row.path row.blob.number) (filter (λ row. is_over grace now row.phase) rows)

pub over_so : (grace now : ℕ) (p : plain.Phase) → is_before (now - grace) p ≡ is_over grace now p
over_so grace now plain.listed = refl
over_so grace now (plain.fading since) =
    ltb_from_iff (λ t. let h = ltb-true since (now - grace) t in omega (arith, h), λ h. lt-ltb since (now - grace) (omega (arith, h)))

-- a path that comes before all rows is none of theirs
apart : (path : List ℕ) (rows : List plain.Row) → AreAfter path rows → without_row path rows ≡ rows
apart path [] h = refl
apart path (row ∷ rows) h =
    ap (λ b. cond (not b) (row ∷ without_row path rows) (without_row path rows)) (sym (same_test path row.path) ∙ ap is_eq h.0)
    ∙ ap (λ r. row ∷ r) (apart path rows h.1)

first_out : (row : plain.Row) (rows : List plain.Row) → AreAfter row.path rows → without_row row.path (row ∷ rows) ≡ rows
first_out row rows h =
    ap (λ b. cond (not b) (row ∷ without_row row.path rows) (without_row row.path rows)) ((bytes_eq-Decides row.path row.path).1 refl)
    ∙ apart row.path rows h

-- what comes after a row goes without it
first_stays : (n grace now : ℕ) (repo : List ℕ) (row : plain.Row) (rows more : List plain.Row) → AreAfter row.path more
    → rows_after_all (take n (gone grace now repo more)) (row ∷ rows) ≡ row ∷ rows_after_all (take n (gone grace now repo more)) rows
first_stays zero grace now repo row rows more h = refl
first_stays (suc n) grace now repo row rows [] h = refl
first_stays (suc n) grace now repo row rows (x ∷ more) h =
    elim (is_over grace now x.phase)
    as (λ b. rows_after_all (take (suc n) (map (λ r. expires repo r.path r.blob.number) (cond b (x ∷ filter (λ r. is_over grace now r.phase) more) (filter (λ r. is_over grace now r.phase) more)))) (row ∷ rows)
    ≡ row ∷ rows_after_all (take (suc n) (map (λ r. expires repo r.path r.blob.number) (cond b (x ∷ filter (λ r. is_over grace now r.phase) more) (filter (λ r. is_over grace now r.phase) more)))) rows) [
      | true ↦
          ap (λ b. rows_after_all (take n (gone grace now repo more)) (cond (not b) (row ∷ without_row x.path rows) (without_row x.path rows)))
          (sym (is_eq-slice_cmp row.path x.path) ∙ ap is_eq h.0)
          ∙ first_stays n grace now repo row (without_row x.path rows) more h.1
      | false ↦ first_stays (suc n) grace now repo row rows more h.1
    ]

none_first : (limit : ℕ) (rows : List plain.Row) → without_first 0 limit rows ≡ rows
none_first limit [] = refl
none_first limit (row ∷ rows) = ap (λ r. row ∷ r) (none_first limit rows)

first_goes : (n limit : ℕ) (p : plain.Phase) → goes (suc n) limit p ≡ is_before limit p
first_goes n limit p = ap (λ b. b && is_before limit p) (lt-ltb 0 (suc n) (omega arith))

less_one : (n : ℕ) → suc n - 1 ≡ n
less_one n = omega arith

-- the first rows whose grace period is over go
pub dropped : (n grace now : ℕ) (repo : List ℕ) (rows : List plain.Row) → AreRising rows → rows_after_all (take n (gone grace now repo rows)) rows ≡ without_first n (now - grace) rows
dropped zero grace now repo rows up = sym (none_first (now - grace) rows)
dropped (suc n) grace now repo [] up = refl
dropped (suc n) grace now repo (row ∷ rows) up =
    elim (is_over grace now row.phase)
    as (λ b. is_over grace now row.phase ≡ b
    → rows_after_all (take (suc n) (map (λ r. expires repo r.path r.blob.number) (cond b (row ∷ filter (λ r. is_over grace now r.phase) rows) (filter (λ r. is_over grace now r.phase) rows)))) (row ∷ rows)
    ≡ without_first (suc n) (now - grace) (row ∷ rows)) [
      | true ↦ λ is.
          ap (rows_after_all (take n (gone grace now repo rows))) (first_out row rows up.0)
          ∙ dropped n grace now repo rows up.1
          ∙ ap (λ k. without_first k (now - grace) rows) (sym (less_one n))
          ∙ sym (ap (λ b. cond b (without_first (suc n - 1) (now - grace) rows) (row ∷ without_first (suc n) (now - grace) rows)) (first_goes n (now - grace) row.phase ∙ over_so grace now row.phase ∙ is))
      | false ↦ λ is.
          first_stays (suc n) grace now repo row rows rows up.0
          ∙ ap (λ r. row ∷ r) (dropped (suc n) grace now repo rows up.1)
          ∙ sym (ap (λ b. cond b (without_first (suc n - 1) (now - grace) rows) (row ∷ without_first (suc n) (now - grace) rows)) (first_goes n (now - grace) row.phase ∙ over_so grace now row.phase ∙ is))
    ] refl
