-- What the tables tell of proxies: their files and their documents.
use Rattle.std.specs.Prelude.{◌≡◌, ℕ, List, [], find, IsTrue}
use Rattle.std.specs.Option.{option_map, option_map_or}
use Rattle.std.specs.List.{list_any}
use Rattle.repo_model.specs.Data.{Row, Kept, Proxy}
use Rattle.repo_model.specs.State.{is_proxy, row_at}
use Rattle.repo_model.specs.Proxies.{kept_at}
use Rattle.repo_model.specs.Tables.{RecordedRow, RecordedDocument, recorded_at}
use Rattle.repo_laws.specs.Laws.{without_bytes}
use Rattle.repo_laws.specs.Items.{document_at}

abbrev pub files_in : List ℕ → List Proxy → List Row
files_in id proxies = option_map_or (λ (p : Proxy). p.files) (find (is_proxy id) proxies) []

abbrev pub documents_in : List ℕ → List Proxy → List Kept
documents_in id proxies = option_map_or (λ (p : Proxy). p.documents) (find (is_proxy id) proxies) []

-- of each proxy that is there, the file at each path, without its blob's bytes
abbrev pub FilesHeld : List RecordedRow → List Proxy → Type 0
FilesHeld tables proxies =
    (id path : List ℕ) → IsTrue (list_any (is_proxy id) proxies) → recorded_at id path tables ≡ option_map without_bytes (row_at path (files_in id proxies))

abbrev pub recorded_kept : List ℕ → Kept → RecordedDocument
recorded_kept id k = record { repo = id; path = k.path; checked = k.checked; document = k.document }

-- and the document at each path, with the moment when it was checked
abbrev pub DocumentsHeld : List RecordedDocument → List Proxy → Type 0
DocumentsHeld tables proxies =
    (id path : List ℕ) → IsTrue (list_any (is_proxy id) proxies) → document_at id path tables ≡ option_map (recorded_kept id) (kept_at path (documents_in id proxies))
