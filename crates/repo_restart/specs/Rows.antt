-- Recorded rows and documents that can come back to their repositories and proxies, and the repositories and proxies that they make.
use Rattle.std.specs.Prelude.{◌≡◌, ℕ, ◌≤◌, ◌==◌, not, IsTrue, List, map, filter, count_by, Option, IfSome}
use Rattle.std.specs.List.{AllByRecursion}
use Rattle.std.specs.List.Sorted.{IsStrictlySortedBy}
use Rattle.outside.specs.Blobs.{Shelf, bytes_at}
use Rattle.repo_model.specs.Data.{Hosted, Proxy, listed}
use Rattle.repo_model.specs.History.{latest_moment}
use Rattle.repo_model.specs.Restart.{hosted_from, proxy_from, recorded_of}
use Rattle.repo_model.specs.Settings.{ProxyRule, Rule}
use Rattle.repo_model.specs.State.{new_proxy}
use Rattle.repo_model.specs.Tables.{AreComplete, RecordedDocument, RecordedRow, Tables}
use Rattle.row_tables.specs.Items.{is_file_path, is_id}
use Rattle.repo_laws.specs.Holds.{document_cmp, named_in, row_cmp}
use Rattle.repo_model.specs.Paths.{FadesRightly}
use Rattle.blob_audit.specs.Order.{File}

-- rows that rise strictly, each with a blob of its own and with all its digests, at paths of files, none later than the latest
-- moment; what fades is a snapshot's
pub record AreRestorable (rows : List RecordedRow) : Type 0 where
  pub rising : IsStrictlySortedBy row_cmp rows
  pub apart : (n : ℕ) → count_by (λ (r : RecordedRow). r.row.blob.number == n) rows ≤ 1
  pub files : AllByRecursion (λ (r : RecordedRow). IsTrue (is_file_path r.row.path)) rows
  pub in_time : AllByRecursion (λ (r : RecordedRow). r.row.accepted ≤ latest_moment) rows
  pub fading : AllByRecursion (λ (r : RecordedRow). FadesRightly r.row) rows
  pub complete : AreComplete rows

-- rows of proxies that are so, and visible
pub record AreCachedRestorable (rows : List RecordedRow) : Type 0 where
  pub rows_so : AreRestorable rows
  pub visible : AllByRecursion (λ (r : RecordedRow). r.row.phase ≡ listed) rows

-- tables whose rows are so, each blob being named once in all; documents that rise strictly, none checked later than the latest moment
pub record IsRestorable (t : Tables) : Type 0 where
  pub hosted : AreRestorable t.hosted
  pub cached : AreCachedRestorable t.cached
  pub apart : (n : ℕ) → named_in t n ≤ 1
  pub rising : IsStrictlySortedBy document_cmp t.documents
  pub checked : AllByRecursion (λ (d : RecordedDocument). d.checked ≤ latest_moment) t.documents

-- the rule of a proxy has an id of its form, and remembers for at most a day what its remote did not have
abbrev pub HasProxyForm : ProxyRule → Type 0
HasProxyForm rule = IsTrue (is_id rule.id) × (rule.negative_seconds ≤ 86400)

-- bytes that stand under their numbers, where the store tells its blobs
abbrev pub AreStanding : Shelf → (ℕ → Option (List ℕ)) → Type 0
AreStanding shelf tells = IfSome shelf.blobs (λ them. (n : ℕ) → tells n ≡ bytes_at n them)

-- Each rule's repository has the rows that are recorded of it. Their bytes are those that stand under their numbers.
pub record AreRowsRestored (shelf : Shelf) (rows : List RecordedRow) (rules : List Rule) (repos : List Hosted) : Type 0 where
  pub tells : ℕ → Option (List ℕ)
  pub standing : AreStanding shelf tells
  pub made : repos ≡ map (hosted_from tells rows) rules

-- a proxy with the files that are recorded of it, and no documents yet
abbrev pub caching_from : (ℕ → Option (List ℕ)) → List RecordedRow → ProxyRule → Proxy
caching_from tells rows rule = record (new_proxy rule) { files = recorded_of tells rows rule.id }

-- the same of the files of proxies
pub record AreFilesRestored (shelf : Shelf) (rows : List RecordedRow) (rules : List ProxyRule) (proxies : List Proxy) : Type 0 where
  pub tells : ℕ → Option (List ℕ)
  pub standing : AreStanding shelf tells
  pub made : proxies ≡ map (caching_from tells rows) rules

-- Each rule's repository has the rows, and each rule's proxy the files and the documents, that are recorded of it. Their bytes are
-- those that stand under their numbers.
pub record AreRestored (shelf : Shelf) (t : Tables) (rules : List Rule) (proxy_rules : List ProxyRule) (repos : List Hosted) (proxies : List Proxy) : Type 0 where
  pub tells : ℕ → Option (List ℕ)
  pub standing : AreStanding shelf tells
  pub made : repos ≡ map (hosted_from tells t.hosted) rules
  pub kept : proxies ≡ map (proxy_from tells t) proxy_rules

-- the rows of hosted repositories among recorded files, and those of proxies
abbrev pub hosted_rows : List File → List RecordedRow
hosted_rows files = map (λ (f : File). f.row) (filter (λ (f : File). f.is_hosted) files)

abbrev pub cached_rows : List File → List RecordedRow
cached_rows files = map (λ (f : File). f.row) (filter (λ (f : File). not f.is_hosted) files)
