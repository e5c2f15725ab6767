-- The document of a directory, row after row.
use Rattle.std.specs.Prelude.{ℕ, ◌<◌, length, ◌&&◌, if◌then◌else◌, List, filter, fold, Option, Some, None, unwrap_or}
use Rattle.std.specs.Cmp.Lexicographic.{slice_cmp}
use Rattle.std.specs.Ordering.{is_le, nat_cmp}
use Rattle.mvn_coords.specs.Layout.{Directory}
use Rattle.mvn_metadata.specs.Document.{Document, settled, blank}
use Rattle.repo_model.specs.Data.{Row}
use Rattle.repo_model.specs.Document.{is_listed, with_row}
use Rattle.repo_model.specs.Paths.{file_at, stands_in}
use Rattle.directory_rows.specs.Walks.{IsUpTo}

abbrev pub with_listed : Document → Row → Document
with_listed doc row = record doc { listing = with_row doc.listing row }

-- the document of a directory so far, and with one more row, which counts where it is visible and the directory's
abbrev pub added : Directory → Option Document → Row → Option Document
added d doc row =
    if is_listed row.phase && stands_in d (file_at row.path) then Some (with_listed (unwrap_or doc (settled blank d)) row) else doc

-- the rows from a text on
abbrev pub rest_from : List ℕ → List Row → List Row
rest_from text rows = filter (λ row. is_le (slice_cmp nat_cmp text row.path)) rows

-- what a document so far becomes by the rows from a text on, if there is one
abbrev pub gone_on : Directory → List Row → Option Document → Option (List ℕ) → Option Document
gone_on d rows doc None = doc
gone_on d rows doc (Some text) = fold (added d) doc (rest_from text rows)

-- a walk that began at a text goes on after it, with fewer rows left, but not before the directory's own rows
abbrev pub GoesOn : List ℕ → List ℕ → List Row → Option (List ℕ) → Type 0
GoesOn base from rows None = Unit {0}
GoesOn base from rows (Some next) = IsUpTo base next × (length (rest_from next rows) < length (rest_from from rows))
