-- How often the rows of the repositories that a start makes name a blob: no more often than the recorded ones.
use native.Mathlib.Omega.{arith}
use Rattle.std.proofs.Common.{◌≡◌, ◌≤◌, ◌+◌, ℕ, true, false, cond, List, [], ◌∷◌, map, Option, Some, None, refl, sym, ◌∙◌, ap, subst}
use Rattle.std.specs.Prelude.{◌==◌, filter, find, count_by, bytes_eq}
use Rattle.std.proofs.lemmas.Bool.{false≢true}
use Rattle.std.proofs.lemmas.Option.{none-some}
use Rattle.repo_model.specs.Data.{Hosted}
use Rattle.repo_model.specs.Settings.{Rule}
use Rattle.repo_model.specs.Tables.{RecordedRow}
use Rattle.repo_model.specs.Restart.{with_bytes, is_of, recorded_of, hosted_from}
use Rattle.repo_laws.specs.Laws.{rows_with}
use Rattle.repo_laws.specs.Sound.{AreNamedApart}
use Rattle.repo_laws.proofs.Counts.{one_if, names, count-cons, rows_with-cons, sum-none}
use Rattle.repo_laws.proofs.HoldingLists.{all-map}
use Rattle.repo_laws.proofs.Releases.{same_path, other_path, is_itself}

module _ (tells : ℕ → Option (List ℕ)) where
  -- how often a blob's number stands in rows
  module _ (n : ℕ) where
    abbrev with_rows : List RecordedRow → List Rule → ℕ
    with_rows rows rules = rows_with n (map (hosted_from tells rows) rules)

    abbrev is_it : RecordedRow → ℕ
    is_it r = one_if (r.row.blob.number == n)

    one-more : (r : RecordedRow) (rows : List RecordedRow) (repo : List ℕ) → bytes_eq r.repo repo ≡ true
        → count_by (names n) (recorded_of tells (r ∷ rows) repo) ≡ is_it r + count_by (names n) (recorded_of tells rows repo)
    one-more r rows repo is =
        ap (λ b. count_by (names n) (map (λ (x : RecordedRow). with_bytes tells x.row) (cond b (r ∷ filter (is_of repo) rows) (filter (is_of repo) rows)))) is
        ∙ count-cons (names n) (with_bytes tells r.row) (recorded_of tells rows repo)

    no-more : (r : RecordedRow) (rows : List RecordedRow) (repo : List ℕ) → bytes_eq r.repo repo ≡ false
        → count_by (names n) (recorded_of tells (r ∷ rows) repo) ≡ count_by (names n) (recorded_of tells rows repo)
    no-more r rows repo is = ap (λ b. count_by (names n) (map (λ (x : RecordedRow). with_bytes tells x.row) (cond b (r ∷ filter (is_of repo) rows) (filter (is_of repo) rows)))) is

    -- under other ids it does not stand
    elsewhere : (r : RecordedRow) (rows : List RecordedRow) (rules : List Rule) → find (λ (other : Rule). bytes_eq other.id r.repo) rules ≡ None → with_rows (r ∷ rows) rules ≡ with_rows rows rules
    elsewhere r rows [] none = refl
    elsewhere r rows (rule ∷ rules) none =
        elim (bytes_eq rule.id r.repo) as (λ b. bytes_eq rule.id r.repo ≡ b → cond b (Some rule) (find (λ (other : Rule). bytes_eq other.id r.repo) rules) ≡ None → with_rows (r ∷ rows) (rule ∷ rules) ≡ with_rows rows (rule ∷ rules)) [
          | true ↦ λ _ found. absurd (none-some rule (sym found))
          | false ↦ λ other later.
              let apart : bytes_eq r.repo rule.id ≡ false = other_path r.repo rule.id (λ same. false≢true (sym other ∙ ap (λ id. bytes_eq id r.repo) (sym same) ∙ is_itself r.repo)) in
              omega (
                arith,
                rows_with-cons n (hosted_from tells (r ∷ rows) rule) (map (hosted_from tells (r ∷ rows)) rules),
                rows_with-cons n (hosted_from tells rows rule) (map (hosted_from tells rows) rules),
                no-more r rows rule.id apart,
                elsewhere r rows rules later,
              )
        ] refl none

    once-more : (r : RecordedRow) (rows : List RecordedRow) (rules : List Rule) → AreNamedApart rules → with_rows (r ∷ rows) rules ≤ with_rows rows rules + is_it r
    once-more r rows [] apart = omega arith
    once-more r rows (rule ∷ rules) apart =
        elim (bytes_eq r.repo rule.id) as (λ b. bytes_eq r.repo rule.id ≡ b → with_rows (r ∷ rows) (rule ∷ rules) ≤ with_rows rows (rule ∷ rules) + is_it r) [
          | true ↦ λ is.
              let none : find (λ (other : Rule). bytes_eq other.id r.repo) rules ≡ None = subst (λ (id : List ℕ). find (λ (other : Rule). bytes_eq other.id id) rules ≡ None) (sym (same_path r.repo rule.id is)) apart.0 in
              omega (
                arith,
                rows_with-cons n (hosted_from tells (r ∷ rows) rule) (map (hosted_from tells (r ∷ rows)) rules),
                rows_with-cons n (hosted_from tells rows rule) (map (hosted_from tells rows) rules),
                one-more r rows rule.id is,
                elsewhere r rows rules none,
              )
          | false ↦ λ is.
              omega (
                arith,
                rows_with-cons n (hosted_from tells (r ∷ rows) rule) (map (hosted_from tells (r ∷ rows)) rules),
                rows_with-cons n (hosted_from tells rows rule) (map (hosted_from tells rows) rules),
                no-more r rows rule.id is,
                once-more r rows rules apart.1,
              )
        ] refl

    pub rows-named : (rows : List RecordedRow) (rules : List Rule) → AreNamedApart rules → with_rows rows rules ≤ count_by (λ (r : RecordedRow). r.row.blob.number == n) rows
    rows-named [] rules apart =
        omega (arith, sum-none (λ (h : Hosted). count_by (names n) h.rows) (map (hosted_from tells []) rules) (all-map (hosted_from tells []) (λ (h : Hosted). count_by (names n) h.rows ≡ 0) (λ rule. refl) rules))
    rows-named (r ∷ rows) rules apart =
        omega (arith, once-more r rows rules apart, rows-named rows rules apart, count-cons (λ (x : RecordedRow). x.row.blob.number == n) r rows)
