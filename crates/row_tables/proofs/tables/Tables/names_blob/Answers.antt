use Rattle.std.proofs.Common.{◌∙◌, ap, sym}
use Rattle.std.specs.Prelude.{◌||◌, ◌==◌}
use Rattle.std.specs.List.{list_any}
use Rattle.repo_model.specs.Tables.{RecordedRow, names_blob}
use Rattle.row_tables.specs.Stored.{shown_rows}
use Rattle.row_tables.proofs.Places.{any_blob}
use Rattle.row_tables.proofs.tables.Tables.names_blob.Goals as goal

pub returns-then-names : goal.returns-then-names
returns-then-names c =
    let n = c.args.number in
    let here = sym (any_blob n c.self.inside.hosted.entries) ∙ sym c.names.ensures ∙ c.if-names.true in
    c.if-names.true ∙ sym (ap (λ b. b || list_any (λ (r : RecordedRow). r.row.blob.number == n) (shown_rows c.self.inside.cached.entries)) here) ∙ ap (names_blob n) c.self.view_is

pub returns-else-names : goal.returns-else-names
returns-else-names c =
    let n = c.args.number in
    let here = sym (any_blob n c.self.inside.hosted.entries) ∙ sym c.names.ensures ∙ c.if-names.false in
    (c.names-else-names.ensures ∙ any_blob n c.self.inside.cached.entries) ∙ sym (ap (λ b. b || list_any (λ (r : RecordedRow). r.row.blob.number == n) (shown_rows c.self.inside.cached.entries)) here) ∙ ap (names_blob n) c.self.view_is
