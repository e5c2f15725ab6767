-- A row that is taken up as it was kept.
use Rattle.std.specs.Prelude.{ℕ, List}
use Rattle.repo_model.specs.Data as plain
use Rattle.ordered_rows.specs.declared.row.Phase.{Phase}
use Rattle.ordered_rows.specs.Rows.{shown_phase}

-- the row of a blob that was kept at a path
abbrev pub kept_row : List ℕ → plain.Blob → ℕ → Phase → plain.Row
kept_row path blob accepted phase = record { path = path; blob = blob; accepted = accepted; phase = shown_phase phase }
