-- Where recorded rows stand.
use Rattle.std.specs.Prelude.{◌≡◌, IsTrue}
use Rattle.repo_model.specs.Data.{listed}
use Rattle.repo_model.specs.Tables.{RecordedRow}
use Rattle.row_tables.specs.Items.{is_file_path, is_id}

-- a row of a repository whose id has its form, at the path of a file
abbrev pub StandsAtFile : RecordedRow → Type 0
StandsAtFile r = IsTrue (is_id r.repo) × IsTrue (is_file_path r.row.path)

-- a row that is visible
abbrev pub IsListed : RecordedRow → Type 0
IsListed r = r.row.phase ≡ listed
