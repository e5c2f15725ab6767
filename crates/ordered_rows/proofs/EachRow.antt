-- What holds of each row, as rows come, change and go.
use Rattle.std.proofs.Common.{◌≡◌, ℕ, ◌-◌, Bool, true, false, cond, not, List, [], ◌∷◌, Less, Equal, Greater, nat_cmp, refl}
use Rattle.std.specs.Cmp.Lexicographic.{slice_cmp}
use Rattle.std.specs.List.{AllByRecursion}
use Rattle.std.specs.Ordering.{match_ordering}
use Rattle.repo_model.specs.Data as plain
use Rattle.repo_model.specs.Effect.{with_row, without_row}
use Rattle.repo_model.specs.State.{change_where, is_row}
use Rattle.ordered_rows.specs.Rows.{goes, without_first}

module _ (P : plain.Row → Type 0) where
  abbrev Each : List plain.Row → Type 0
  Each rows = AllByRecursion P rows

  pub each-with : (new : plain.Row) (rows : List plain.Row) → P new → Each rows → Each (with_row new rows)
  each-with new [] one all = (one, tt)
  each-with new (row ∷ rows) one all =
      elim (slice_cmp nat_cmp new.path row.path) as (λ o. Each (match_ordering o (new ∷ row ∷ rows) (new ∷ row ∷ rows) (row ∷ with_row new rows))) [
        | Less ↦ (one, all)
        | Equal ↦ (one, all)
        | Greater ↦ (all.0, each-with new rows one all.1)
      ]

  pub each-changed : (test : plain.Row → Bool) (f : plain.Row → plain.Row) → ((row : plain.Row) → test row ≡ true → P row → P (f row)) → (rows : List plain.Row) → Each rows → Each (change_where test f rows)
  each-changed test f again [] all = tt
  each-changed test f again (row ∷ rows) all =
      (elim (test row) as (λ b. test row ≡ b → P (cond b (f row) row)) [ true ↦ λ is. again row is all.0 | false ↦ λ is. all.0 ] refl, each-changed test f again rows all.1)

  pub each-without : (path : List ℕ) (rows : List plain.Row) → Each rows → Each (without_row path rows)
  each-without path [] all = tt
  each-without path (row ∷ rows) all =
      elim (is_row path row) as (λ b. Each (cond (not b) (row ∷ without_row path rows) (without_row path rows))) [
        | true ↦ each-without path rows all.1
        | false ↦ (all.0, each-without path rows all.1)
      ]

  pub each-left : (n limit : ℕ) (rows : List plain.Row) → Each rows → Each (without_first n limit rows)
  each-left n limit [] all = tt
  each-left n limit (row ∷ rows) all =
      elim (goes n limit row.phase) as (λ b. Each (cond b (without_first (n - 1) limit rows) (row ∷ without_first n limit rows))) [
        | true ↦ each-left (n - 1) limit rows all.1
        | false ↦ (all.0, each-left n limit rows all.1)
      ]
