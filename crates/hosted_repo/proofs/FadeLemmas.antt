-- Rows that fade one after the other.
use Rattle.std.proofs.Common.{◌≡◌, ℕ, List, [], ◌∷◌, ◌++◌, map, String, Global, string_bytes, refl, sym, ap, ◌∙◌}
use Rattle.repo_model.specs.Data as plain
use Rattle.repo_model.specs.Effect.{Effect, fades, rows_after}
use Rattle.ordered_rows.specs.Rows.{rows_after_all}
use Rattle.hosted_repo.specs.Fades.{fade_at_paths}

pub after_more : (es : List Effect) (e : Effect) (rows : List plain.Row) → rows_after_all (es ++ e ∷ []) rows ≡ rows_after e (rows_after_all es rows)
after_more [] e rows = refl
after_more (x ∷ es) e rows = after_more es e (rows_after x rows)

pub faded : (repo : List ℕ) (now : ℕ) (paths : List (String Global)) (rows : List plain.Row) → map string_bytes paths ≡ map (λ (row : plain.Row). row.path) rows
    → fade_at_paths repo now paths ≡ map (λ (row : plain.Row). fades repo row.path now) rows
faded repo now paths rows same =
    apart paths ∙ ap (map (λ path. fades repo path now)) same ∙ sym (apart_rows rows)
  where
    apart : (xs : List (String Global)) → fade_at_paths repo now xs ≡ map (λ path. fades repo path now) (map string_bytes xs)
    apart [] = refl
    apart (x ∷ xs) = ap (λ es. fades repo (string_bytes x) now ∷ es) (apart xs)

    apart_rows : (xs : List plain.Row) → map (λ (row : plain.Row). fades repo row.path now) xs ≡ map (λ path. fades repo path now) (map (λ (row : plain.Row). row.path) xs)
    apart_rows [] = refl
    apart_rows (x ∷ xs) = ap (λ es. fades repo x.path now ∷ es) (apart_rows xs)
