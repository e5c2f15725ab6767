-- A row that is added and taken away again.
use Rattle.std.proofs.Common.{◌≡◌, ℕ, true, false, cond, not, List, [], ◌∷◌, Some, None, Less, Equal, Greater, nat_cmp, refl, sym, ap, ◌∙◌, subst}
use Rattle.std.proofs.lemmas.Option.{none-some}
use Rattle.std.proofs.lemmas.Slice.Eq.{bytes_eq-Decides}
use Rattle.std.specs.Cmp.Lexicographic.{slice_cmp}
use Rattle.std.specs.Ordering.{match_ordering}
use Rattle.repo_model.specs.Data as plain
use Rattle.repo_model.specs.Effect.{with_row, without_row}
use Rattle.repo_model.specs.State.{is_row, row_at}

-- a row that is not at a path at which no row is
free-first : (path : List ℕ) (row : plain.Row) (rows : List plain.Row) → row_at path (row ∷ rows) ≡ None → (is_row path row ≡ false) × (row_at path rows ≡ None)
free-first path row rows =
    elim (is_row path row) as (λ b. cond b (Some row) (row_at path rows) ≡ None → (b ≡ false) × (row_at path rows ≡ None)) [
      | true ↦ λ is. absurd (none-some row (sym is))
      | false ↦ λ is. (refl, is)
    ]

without-none : (path : List ℕ) (rows : List plain.Row) → row_at path rows ≡ None → without_row path rows ≡ rows
without-none path [] none = refl
without-none path (row ∷ rows) none =
    let free = free-first path row rows none in
    ap (λ b. cond (not b) (row ∷ without_row path rows) (without_row path rows)) free.0 ∙ ap (λ rs. row ∷ rs) (without-none path rows free.1)

-- the rows are as before
taken-back : (new : plain.Row) (rows : List plain.Row) → row_at new.path rows ≡ None → without_row new.path (with_row new rows) ≡ rows
taken-back new rows none = back rows none
  where
    itself : is_row new.path new ≡ true
    itself = (bytes_eq-Decides new.path new.path).1 refl

    gone : (rest : List plain.Row) → row_at new.path rest ≡ None → without_row new.path (new ∷ rest) ≡ rest
    gone rest free = ap (λ b. cond (not b) (new ∷ without_row new.path rest) (without_row new.path rest)) itself ∙ without-none new.path rest free

    back : (rest : List plain.Row) → row_at new.path rest ≡ None → without_row new.path (with_row new rest) ≡ rest
    back [] free = gone [] free
    back (row ∷ rest) free =
        let first = free-first new.path row rest free in
        elim (slice_cmp nat_cmp new.path row.path)
        as (λ o. without_row new.path (match_ordering o (new ∷ row ∷ rest) (new ∷ row ∷ rest) (row ∷ with_row new rest)) ≡ row ∷ rest) [
          | Less ↦ gone (row ∷ rest) free
          | Equal ↦ gone (row ∷ rest) free
          | Greater ↦
              ap (λ b. cond (not b) (row ∷ without_row new.path (with_row new rest)) (without_row new.path (with_row new rest))) first.0
              ∙ ap (λ rs. row ∷ rs) (back rest first.1)
        ]

pub put-back : (path : List ℕ) (new : plain.Row) (rows after : List plain.Row) → after ≡ with_row new rows → new.path ≡ path → row_at path rows ≡ None → without_row path after ≡ rows
put-back path new rows after made at none =
    ap (without_row path) made ∙ subst (λ (p : List ℕ). row_at p rows ≡ None → without_row p (with_row new rows) ≡ rows) at (taken-back new rows) none
