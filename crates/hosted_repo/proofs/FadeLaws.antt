-- What stays as it was where rows fade.
use Rattle.std.proofs.Common.{◌≡◌, ℕ, zero, suc, true, false, cond, List, [], ◌∷◌, map, filter, take, Option, Some, None, Result, Ok, Err, option_map, refl, sym, ap, ◌∙◌}
use Rattle.std.specs.Prelude.{is_some}
use Rattle.std.specs.List.{AllByRecursion}
use Rattle.std.proofs.lemmas.Bool.{and_parts, false≢true}
use Rattle.std.proofs.lemmas.Slice.Eq.{bytes_eq-Decides}
use Rattle.mvn_coords.specs.FileName.{BuildOf}
use Rattle.mvn_coords.specs.Layout.{Coordinates, text_of}
use Rattle.mvn_coords.specs.declared.fault.PathFault.{PathFault}
use Rattle.mvn_coords.specs.declared.kind.Kind.{Kind}
use Rattle.mvn_coords.specs.declared.kind.Kind.TheVariants as kind
use Rattle.mvn_digest.specs.Sides.{side_text}
use Rattle.repo_model.specs.Data as plain
use Rattle.repo_model.specs.Document.{is_listed}
use Rattle.repo_model.specs.Effect.{fade, fades, rows_after}
use Rattle.repo_model.specs.Paths.{FadesRightly, file_at, is_build, is_snapshot_path}
use Rattle.repo_model.specs.Purge.{due_rows, is_due_at, is_due_build, most_rows}
use Rattle.repo_model.specs.Settings.{Rule}
use Rattle.repo_model.specs.State.{change_where, is_row, row_at}
use Rattle.repo_model.specs.Turn.{Seen, is_file, is_text, or_nothing, seen_at}
use Rattle.directory_rows.specs.Dues.{is_due_row}
use Rattle.hosted_repo.specs.Releases.{AllFadeRightly}
use Rattle.ordered_rows.specs.Rows.{rows_after_all}
use Rattle.hosted_repo.specs.Seens.{is_of_document}
use Rattle.ordered_rows.proofs.EachRow.{each-changed}

abbrev blob_at : List ℕ → List plain.Row → Option plain.Blob
blob_at path rows = option_map (λ (row : plain.Row). row.blob) (row_at path rows)

-- each path keeps its blob
blob-faded : (at path : List ℕ) (moment : ℕ) (rows : List plain.Row) → blob_at path (change_where (is_row at) (fade moment) rows) ≡ blob_at path rows
blob-faded at path moment [] = refl
blob-faded at path moment (row ∷ rows) =
    elim (is_row at row)
    as (λ b. option_map (λ (r : plain.Row). r.blob) (row_at path (cond b (fade moment row) row ∷ change_where (is_row at) (fade moment) rows)) ≡ blob_at path (row ∷ rows)) [
      | true ↦
          elim (is_row path row) as (λ t. option_map (λ (r : plain.Row). r.blob) (cond t (Some (fade moment row)) (row_at path (change_where (is_row at) (fade moment) rows))) ≡ option_map (λ (r : plain.Row). r.blob) (cond t (Some row) (row_at path rows))) [
            | true ↦ refl
            | false ↦ blob-faded at path moment rows
          ]
      | false ↦
          elim (is_row path row) as (λ t. option_map (λ (r : plain.Row). r.blob) (cond t (Some row) (row_at path (change_where (is_row at) (fade moment) rows))) ≡ option_map (λ (r : plain.Row). r.blob) (cond t (Some row) (row_at path rows))) [
            | true ↦ refl
            | false ↦ blob-faded at path moment rows
          ]
    ]

shown_blob : (f : plain.Blob → Seen) (o : Option plain.Row) → or_nothing (λ (row : plain.Row). f row.blob) o ≡ or_nothing f (option_map (λ (row : plain.Row). row.blob) o)
shown_blob f None = refl
shown_blob f (Some row) = refl

seen_same : (xs ys : List plain.Row) → ((path : List ℕ) → blob_at path xs ≡ blob_at path ys) → (path : List ℕ) (k : Result Kind PathFault) → is_of_document k ≡ false → seen_at xs path k ≡ seen_at ys path k
seen_same xs ys same path (Ok (kind.File c)) other =
    shown_blob is_file (row_at path xs) ∙ ap (or_nothing is_file) (same path) ∙ sym (shown_blob is_file (row_at path ys))
seen_same xs ys same path (Ok (kind.FileSide c side)) other =
    let f : plain.Blob → Seen = λ blob. is_text (side_text side blob.print.digests) in
    shown_blob f (row_at (text_of c) xs) ∙ ap (or_nothing f) (same (text_of c)) ∙ sym (shown_blob f (row_at (text_of c) ys))
seen_same xs ys same path (Ok (kind.Doc d)) other = absurd (false≢true (sym other))
seen_same xs ys same path (Ok (kind.DocSide d side)) other = absurd (false≢true (sym other))
seen_same xs ys same path (Err fault) other = refl

blob-rows : (repo : List ℕ) (now : ℕ) (due rows : List plain.Row) (path : List ℕ) → blob_at path (rows_after_all (map (λ (row : plain.Row). fades repo row.path now) due) rows) ≡ blob_at path rows
blob-rows repo now [] rows path = refl
blob-rows repo now (row ∷ due) rows path = blob-rows repo now due (rows_after (fades repo row.path now) rows) path ∙ blob-faded row.path path now rows

pub answered_alike : (repo : List ℕ) (now : ℕ) (due rows : List plain.Row) (path : List ℕ) (k : Result Kind PathFault) → is_of_document k ≡ false
    → seen_at (rows_after_all (map (λ (row : plain.Row). fades repo row.path now) due) rows) path k ≡ seen_at rows path k
answered_alike repo now due rows path k other = seen_same (rows_after_all (map (λ (row : plain.Row). fades repo row.path now) due) rows) rows (blob-rows repo now due rows) path k other

-- ---- files of releases
abbrev AreSnapshots : List plain.Row → Type 0
AreSnapshots rows = AllByRecursion (λ (row : plain.Row). is_snapshot_path row.path ≡ true) rows

due_has_build : (o : Option BuildOf) (builds : List BuildOf) → is_due_build o builds ≡ true → is_some o ≡ true
due_has_build None builds h = absurd (false≢true h)
due_has_build (Some b) builds h = refl

due_is_snapshot : (rule : Rule) (now : ℕ) (rows : List plain.Row) (o : Option Coordinates) → is_due_at rule now rows o ≡ true → is_build o ≡ true
due_is_snapshot rule now rows None h = absurd (false≢true h)
due_is_snapshot rule now rows (Some c) h = due_has_build c.build _ h

due_filter : (rule : Rule) (now : ℕ) (all rows : List plain.Row) → AreSnapshots (filter (is_due_row rule now all) rows)
due_filter rule now all [] = tt
due_filter rule now all (row ∷ rows) =
    elim (is_due_row rule now all row) as (λ b. is_due_row rule now all row ≡ b → AreSnapshots (cond b (row ∷ filter (is_due_row rule now all) rows) (filter (is_due_row rule now all) rows))) [
      | true ↦ λ is. (due_is_snapshot rule now all (file_at row.path) (and_parts (is_listed row.phase) _ is).1, due_filter rule now all rows)
      | false ↦ λ is. due_filter rule now all rows
    ] refl

snapshots_take : (n : ℕ) (rows : List plain.Row) → AreSnapshots rows → AreSnapshots (take n rows)
snapshots_take zero rows h = tt
snapshots_take (suc n) [] h = tt
snapshots_take (suc n) (row ∷ rows) h = (h.0, snapshots_take n rows h.1)

-- rows that fade at a snapshot's path
rightly-one : (at : List ℕ) (now : ℕ) (rows : List plain.Row) → is_snapshot_path at ≡ true → AllFadeRightly rows → AllFadeRightly (change_where (is_row at) (fade now) rows)
rightly-one at now rows snapshot all =
    each-changed FadesRightly (is_row at) (fade now) (λ row is right since e. ap is_snapshot_path ((bytes_eq-Decides row.path at).0 is) ∙ snapshot) rows all

rightly-some : (repo : List ℕ) (now : ℕ) (due rows : List plain.Row) → AreSnapshots due → AllFadeRightly rows
    → AllFadeRightly (rows_after_all (map (λ (row : plain.Row). fades repo row.path now) due) rows)
rightly-some repo now [] rows h all = all
rightly-some repo now (row ∷ due) rows h all = rightly-some repo now due (rows_after (fades repo row.path now) rows) h.1 (rightly-one row.path now rows h.0 all)

pub rightly_faded : (rule : Rule) (now : ℕ) (rows : List plain.Row) → AllFadeRightly rows
    → AllFadeRightly (rows_after_all (map (λ (row : plain.Row). fades rule.id row.path now) (due_rows rule now rows)) rows)
rightly_faded rule now rows all =
    rightly-some rule.id now (due_rows rule now rows) rows (snapshots_take most_rows (filter (is_due_row rule now rows) rows) (due_filter rule now rows rows)) all
