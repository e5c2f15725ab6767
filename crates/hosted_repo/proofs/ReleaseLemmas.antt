-- What fades is a snapshot's, while rows are listed again, come and go.
use Rattle.std.proofs.Common.{◌≡◌, ℕ, true, false, cond, List, [], ◌∷◌, ◌++◌, Some, None, refl, sym, ◌∙◌, ap, subst}
use Rattle.std.proofs.lemmas.Option.{none-some}
use Rattle.std.proofs.lemmas.Slice.Eq.{bytes_eq-Decides}
use Rattle.repo_model.specs.Data as plain
use Rattle.repo_model.specs.Data.{Staged, Session}
use Rattle.repo_model.specs.Deploy.{deliver_at, deliver_again}
use Rattle.repo_model.specs.Effect.{Effect, list_again, new_row, with_row}
use Rattle.repo_model.specs.Paths.{FadesRightly, is_snapshot_path}
use Rattle.repo_model.specs.State.{change_where, is_row, row_at}
use Rattle.hosted_repo.specs.Releases.{AllFadeRightly}
use Rattle.ordered_rows.specs.Rows.{rows_after_all}
use Rattle.ordered_rows.proofs.EachRow.{each-changed, each-with}
use Rattle.hosted_delivery.proofs.DeliveryLemmas.{effects_by}

pub new-rightly : (path : List ℕ) (blob : plain.Blob) (moment : ℕ) → FadesRightly (new_row path blob moment)
new-rightly path blob moment since is = absurd (let e : plain.listed ≡ plain.fading since = is in cc)

pub rightly-again : (path : List ℕ) (now : ℕ) (rows : List plain.Row) → AllFadeRightly rows → AllFadeRightly (change_where (is_row path) (list_again now) rows)
rightly-again path now rows all = each-changed FadesRightly (is_row path) (list_again now) (λ row is right. new-rightly row.path row.blob now) rows all

pub rightly-delivered : (s : Session) (now : ℕ) (others : List plain.Row) (files : List Staged) (rows : List plain.Row) → AllFadeRightly rows
    → AllFadeRightly (rows_after_all (effects_by s now others files) rows)
rightly-delivered s now others [] rows all = all
rightly-delivered s now others (file ∷ files) rows all =
    let rest : List Effect = effects_by s now others files in
    elim (row_at file.path others) as (λ o. AllFadeRightly (rows_after_all (deliver_at s now file o ++ rest) rows)) [
      | None ↦ rightly-delivered s now others files (with_row (new_row file.path file.blob now) rows) (each-with FadesRightly (new_row file.path file.blob now) rows (new-rightly file.path file.blob now) all)
      | Some row ↦ elim (row.phase) as (λ p. AllFadeRightly (rows_after_all (deliver_again s now file p ++ rest) rows)) [
        | plain.listed ↦ rightly-delivered s now others files rows all
        | plain.fading since ↦ rightly-delivered s now others files (change_where (is_row file.path) (list_again now) rows) (rightly-again file.path now rows all)
      ]
    ]

-- a row that is found at a path has that path, and fades rightly
pub found-at : (path : List ℕ) (rows : List plain.Row) (row : plain.Row) → row_at path rows ≡ Some row → row.path ≡ path
found-at path [] row is = absurd (none-some row is)
found-at path (first ∷ rows) row is =
    elim (is_row path first) as (λ b. is_row path first ≡ b → cond b (Some first) (row_at path rows) ≡ Some row → row.path ≡ path) [
      | true ↦ λ here found. let same : first ≡ row = cc in subst (λ (r : plain.Row). r.path ≡ path) same ((bytes_eq-Decides first.path path).0 here)
      | false ↦ λ other found. found-at path rows row found
    ] refl is

found-rightly : (path : List ℕ) (rows : List plain.Row) (row : plain.Row) → AllFadeRightly rows → row_at path rows ≡ Some row → FadesRightly row
found-rightly path [] row all is = absurd (none-some row is)
found-rightly path (first ∷ rows) row all is =
    elim (is_row path first) as (λ b. cond b (Some first) (row_at path rows) ≡ Some row → FadesRightly row) [
      | true ↦ λ found. let same : first ≡ row = cc in subst FadesRightly same all.0
      | false ↦ λ found. found-rightly path rows row all.1 found
    ] is

-- where the row at a path fades the path is a snapshot's
pub fading-at : (path : List ℕ) (rows : List plain.Row) (row : plain.Row) (since : ℕ) → AllFadeRightly rows → row_at path rows ≡ Some row → row.phase ≡ plain.fading since
    → is_snapshot_path path ≡ true
fading-at path rows row since all found fades = ap is_snapshot_path (sym (found-at path rows row found)) ∙ found-rightly path rows row all found since fades
