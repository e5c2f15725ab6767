use Rattle.std.proofs.Common.{◌≡◌, ℕ, ◌+◌, List, Some, length, string_bytes, option_map}
use Rattle.std.specs.Option.{option_map_or}
use Rattle.repo_model.specs.Document.{document}
use Rattle.directory_rows.specs.Documents.{gone_on, rest_from}
use Rattle.ordered_rows.specs.Rows.{shown_rows}
use Rattle.directory_rows.specs.Walks.{IsUpTo}
use Rattle.directory_rows.proofs.documents.document_among.Given as goal

abbrev pub invariant-loop-next : goal.invariant-loop-next
invariant-loop-next g l = record {
  whole : gone_on l.dir (shown_rows l.rows.entries) l.doc (option_map string_bytes l.next) ≡ document l.dir (shown_rows l.rows.entries);
  begun : (text : List ℕ) → option_map string_bytes l.next ≡ Some text → IsUpTo (string_bytes l.base) text;
}

abbrev pub decreases-loop-next : goal.decreases-loop-next
decreases-loop-next g l = option_map_or (λ text. length (rest_from (string_bytes text) (shown_rows l.rows.entries)) + 1) l.next 0
