-- The entries of the maps that keep the tables, as rows and documents in byte order of repository and path.
use Rattle.std.specs.Prelude.{ℕ, List, map, None, String, string_bytes}
use Rattle.std.specs.declared.alloc.Global.{Global}
use Rattle.repo_model.specs.Data.{Row, Phase, listed, fading}
use Rattle.repo_model.specs.Prints.{print_in}
use Rattle.repo_model.specs.Tables.{RecordedRow, RecordedDocument, RecordedSession}
use Rattle.row_tables.specs.declared.files.FileRow.{FileRow}
use Rattle.row_tables.specs.declared.files.RowPhase.{RowPhase}
use Rattle.row_tables.specs.declared.files.RowPhase.TheVariants.{Listed, Fading}
use Rattle.row_tables.specs.declared.documents.KeptDocument.{KeptDocument}
use Rattle.row_tables.specs.declared.sessions.SessionRow.{SessionRow}

abbrev pub Place : Type 0
Place = String Global × String Global

abbrev pub shown_phase : RowPhase → Phase
shown_phase Listed = listed
shown_phase (Fading since) = fading since

abbrev pub shown_row : List ℕ → FileRow → Row
shown_row path row = record {
  path = path;
  blob = record { number = row.blob; bytes = None; print = print_in row.print };
  accepted = row.accepted;
  phase = shown_phase row.phase;
}

abbrev pub shown_entry : Place × FileRow → RecordedRow
shown_entry e = record { repo = string_bytes e.0.0; row = shown_row (string_bytes e.0.1) e.1 }

abbrev pub shown_rows : List (Place × FileRow) → List RecordedRow
shown_rows entries = map shown_entry entries

abbrev pub shown_document : Place × KeptDocument → RecordedDocument
shown_document e = record { repo = string_bytes e.0.0; path = string_bytes e.0.1; checked = e.1.checked; document = e.1.document }

abbrev pub shown_documents : List (Place × KeptDocument) → List RecordedDocument
shown_documents entries = map shown_document entries

abbrev pub shown_session : SessionRow → RecordedSession
shown_session s = record { number = s.number; result = s.result }

abbrev pub shown_sessions : List SessionRow → List RecordedSession
shown_sessions sessions = map shown_session sessions
