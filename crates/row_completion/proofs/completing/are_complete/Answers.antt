use Rattle.std.proofs.Common.{◌≡◌, true, not, ◌&&◌, [], ◌∷◌, ◌++◌, map, sym, ap, ◌∙◌, subst}
use Rattle.std.specs.Prelude.{◌↔◌}
use Rattle.std.specs.Map.Iter.{deref_pair}
use Rattle.std.proofs.lemmas.List.{map-append}
use Rattle.repo_model.specs.Tables.{AreComplete, RecordedRow}
use Rattle.row_tables.specs.Stored.{shown_entry, shown_rows}
use Rattle.blob_audit.proofs.PrintLemmas.{lacks-so}
use Rattle.row_completion.proofs.Counting.{none-is, row-step}
use Rattle.row_completion.proofs.completing.are_complete.Goals as goal

pub loop-row-preserved : goal.loop-row-preserved
loop-row-preserved c =
    let print = c.in-Some.row.now.print in
    let r : RecordedRow = shown_entry (c.in-Some.field-0-0.now, c.in-Some.row.now) in
    let so_far = map deref_pair c.loop-row.yielded in
    let more : shown_rows (map deref_pair (c.loop-row.yielded ++ (c.in-Some.field-0-0, c.in-Some.row) ∷ [])) ≡ shown_rows so_far ++ r ∷ [] =
    ap (map shown_entry) (map-append deref_pair c.loop-row.yielded ((c.in-Some.field-0-0, c.in-Some.row) ∷ [])) ∙ map-append shown_entry so_far ((c.in-Some.field-0-0.now, c.in-Some.row.now) ∷ []) in
    subst (λ rows. (c.loop-row.complete && c.is_some-complete.result) ≡ true ↔ AreComplete rows) (sym more)
    (row-step c.loop-row.complete c.is_some-complete.result (shown_rows so_far) r c.loop-row.invariant
    (lacks-so print c.sizes.ensures ∙ none-is print.digests.further ∙ ap not (sym c.is_some-complete.ensures)))
