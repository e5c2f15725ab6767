-- A recorded file whose blob was looked at, taken up by its repository or proxy; a recorded document taken up by its proxy.
use Rattle.std.specs.Prelude.{◌≡◌, ℕ, ◌≤◌, true, false, if◌then◌else◌, IsTrue, List, [], map, Option, None, find, IfSome}
use Rattle.std.specs.Option.{option_map_or}
use Rattle.outside.specs.Blobs.{Shelf, bytes_at}
use Rattle.repo_model.specs.Data.{Row, Hosted, Kept, Proxy, listed}
use Rattle.repo_model.specs.Effect.{with_kept, with_row}
use Rattle.repo_model.specs.History.{latest_moment}
use Rattle.repo_model.specs.Prints.{lacks_further}
use Rattle.repo_model.specs.Restart.{documents_of}
use Rattle.repo_model.specs.State.{change_first, is_proxy, is_repository, row_at}
use Rattle.repo_model.specs.Tables.{RecordedDocument, RecordedRow}
use Rattle.repo_model.specs.declared.print.Print.{Print}
use Rattle.row_tables.specs.Items.{is_file_path}
use Rattle.repo_model.specs.Paths.{FadesRightly}
use Rattle.repo_laws.specs.Files.{files_in}
use Rattle.blob_audit.specs.Damages.{IsFound, IsWhole}
use Rattle.blob_audit.specs.Order.{File}

-- the rows of the repository of an id; none where there is no such repository
abbrev pub rows_in : List ℕ → List Hosted → List Row
rows_in id repos = option_map_or (λ (h : Hosted). h.rows) (find (is_repository id) repos) []

-- a row whose blob has these bytes
abbrev pub holding : Option (List ℕ) → Row → Row
holding bytes row = record row { blob = record row.blob { bytes = bytes } }

-- a row with these bytes in the repository of its id; where there is none it goes nowhere
abbrev pub with_taken : RecordedRow → Option (List ℕ) → List Hosted → List Hosted
with_taken r bytes repos =
    change_first (is_repository r.repo) (λ (h : Hosted). record h { rows = with_row (holding bytes r.row) h.rows }) repos

abbrev pub with_file : File → Option (List ℕ) → List Hosted → List Hosted
with_file f bytes repos = if f.is_hosted then with_taken f.row bytes repos else repos

-- a file with these bytes at the proxy of its id; where there is none it goes nowhere
abbrev pub with_cached : RecordedRow → Option (List ℕ) → List Proxy → List Proxy
with_cached r bytes proxies =
    change_first (is_proxy r.repo) (λ (p : Proxy). record p { files = with_row (holding bytes r.row) p.files }) proxies

abbrev pub with_proxys_file : File → Option (List ℕ) → List Proxy → List Proxy
with_proxys_file f bytes proxies = if f.is_hosted then proxies else with_cached f.row bytes proxies

abbrev pub kept_of : RecordedDocument → Kept
kept_of d = record { path = d.path; checked = d.checked; document = d.document }

-- a document at the proxy of its id; where there is none it goes nowhere
abbrev pub with_taken_document : RecordedDocument → List Proxy → List Proxy
with_taken_document d proxies = change_first (is_proxy d.repo) (λ (p : Proxy). record p { documents = with_kept (kept_of d) p.documents }) proxies

-- the documents that are recorded at the proxies of their ids, which keep no others
abbrev pub with_documents : List RecordedDocument → List Proxy → List Proxy
with_documents documents proxies = map (λ (p : Proxy). record p { documents = documents_of documents p.rule.id }) proxies

-- a hosted file can be taken up: its path is that of a file and has no row yet, its moment is none too late, it is a snapshot's
-- where it fades, and it has all its digests
abbrev pub CanTakeHosted : File → List Hosted → Type 0
CanTakeHosted f repos =
    f.is_hosted ≡ true → IsTrue (is_file_path f.row.row.path) × (f.row.row.accepted ≤ latest_moment) × FadesRightly f.row.row
    × (lacks_further f.row.row.blob.print ≡ false) × (row_at f.row.row.path (rows_in f.row.repo repos) ≡ None)

-- a proxy's file can be taken up: the same, and it is visible
abbrev pub CanTakeCached : File → List Proxy → Type 0
CanTakeCached f proxies =
    f.is_hosted ≡ false → IsTrue (is_file_path f.row.row.path) × (f.row.row.accepted ≤ latest_moment) × (f.row.row.phase ≡ listed)
    × (lacks_further f.row.row.blob.print ≡ false) × (row_at f.row.row.path (files_in f.row.repo proxies) ≡ None)

abbrev pub CanTake : File → List Hosted → List Proxy → Type 0
CanTake f repos proxies = CanTakeHosted f repos × CanTakeCached f proxies

-- the file's blob is the recorded one, and its row is taken up with the bytes that stand, where the store tells its blobs
pub record TakesFile (shelf : Shelf) (f : File) (old new : List Hosted) (old_proxies new_proxies : List Proxy) : Type 0 where
  pub found : Option Print
  pub at : IsFound shelf f.row.row.blob.number found
  pub sound : IsWhole f.row.row.blob.print found
  pub bytes : Option (List ℕ)
  pub standing : IfSome shelf.blobs (λ them. bytes ≡ bytes_at f.row.row.blob.number them)
  pub taken : new ≡ with_file f bytes old
  pub cached : new_proxies ≡ with_proxys_file f bytes old_proxies
