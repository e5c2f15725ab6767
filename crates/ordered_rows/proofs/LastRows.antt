-- Rows that come in rising order of path: each is the last.
use Rattle.std.proofs.Common.{◌≡◌, ℕ, cond, List, [], ◌∷◌, ◌++◌, Some, None, Less, is_eq, refl, sym, ap, ◌∙◌}
use Rattle.std.specs.Cmp.Lexicographic.{nat_list_cmp_total}
use Rattle.std.specs.List.{AllByRecursion}
use Rattle.std.specs.Ordering.{match_ordering, ordering_reverse}
use Rattle.std.proofs.lemmas.Map.Text.{is_eq-slice_cmp}
use Rattle.repo_model.specs.Data as plain
use Rattle.repo_model.specs.Effect.{with_row}
use Rattle.repo_model.specs.State.{row_at}
use Rattle.ordered_rows.proofs.Rising.{cmp}

-- all rows come before a path: there is none at it, and one more with that path is the last
abbrev pub AreBefore : List ℕ → List plain.Row → Type 0
AreBefore path rows = AllByRecursion (λ (row : plain.Row). cmp row.path path ≡ Less) rows

pub none-there : (path : List ℕ) (rows : List plain.Row) → AreBefore path rows → row_at path rows ≡ None
none-there path [] h = refl
none-there path (row ∷ rows) h =
    ap (λ b. cond b (Some row) (row_at path rows)) (sym (is_eq-slice_cmp row.path path) ∙ ap is_eq h.0) ∙ none-there path rows h.1

pub last : (new : plain.Row) (rows : List plain.Row) → AreBefore new.path rows → with_row new rows ≡ rows ++ new ∷ []
last new [] h = refl
last new (row ∷ rows) h =
    ap (λ o. match_ordering o (new ∷ row ∷ rows) (new ∷ row ∷ rows) (row ∷ with_row new rows)) (nat_list_cmp_total.antisymm new.path row.path ∙ ap ordering_reverse h.0)
    ∙ ap (λ r. row ∷ r) (last new rows h.1)
