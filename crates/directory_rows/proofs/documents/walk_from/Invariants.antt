use Rattle.std.proofs.Common.{◌≡◌, fold, string_bytes}
use Rattle.directory_rows.specs.Documents.{added, rest_from}
use Rattle.ordered_rows.specs.Rows.{shown_rows}
use Rattle.directory_rows.proofs.documents.walk_from.Given as goal

-- the rows that are left complete the document as all from the text on do
abbrev pub invariant-loop-path : goal.invariant-loop-path
invariant-loop-path g l =
    fold (added l.dir) l.fn.doc (rest_from (string_bytes l.from) (shown_rows l.rows.entries)) ≡ fold (added l.dir) l.found (shown_rows l.path-iterator)
