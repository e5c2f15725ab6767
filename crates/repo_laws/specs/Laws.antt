-- Words of the laws.
use Rattle.std.specs.Prelude.{◌≡◌, ℕ, ◌+◌, ◌≤◌, ◌==◌, ◌⊎◌, Bool, false, List, [], ◌∷◌, find, None, Some, sum_by, count_by}
use Rattle.std.specs.List.{AllByRecursion}
use Rattle.repo_model.specs.Data.{Blob, Row, Phase, listed, fading, Hosted, Proxy, Session, Staged}
use Rattle.repo_model.specs.Paths.{FadesRightly, is_snapshot_path}
use Rattle.repo_model.specs.State.{State, Lease, row_at, rows_of, is_staged}

-- one of them has a property
abbrev pub AnyByRecursion : {X : Type 0} → (X → Type 0) → List X → Type 0
AnyByRecursion P [] = ⊥
AnyByRecursion P (x ∷ xs) = P x ⊎ AnyByRecursion P xs

abbrev pub FadingAreSnapshots : State → Type 0
FadingAreSnapshots s = AllByRecursion (λ (h : Hosted). AllByRecursion FadesRightly h.rows) s.hosted

-- a row that is no snapshot's stays, with every field the same
abbrev pub KeepsReleases : State → State → Type 0
KeepsReleases old new =
    (repo path : List ℕ) (row : Row) → is_snapshot_path path ≡ false →
    row_at path (rows_of repo old) ≡ Some row → row_at path (rows_of repo new) ≡ Some row

abbrev pub count_of : ℕ → List ℕ → ℕ
count_of n ns = count_by (λ m. m == n) ns

abbrev pub rows_with : ℕ → List Hosted → ℕ
rows_with n hosted = sum_by (λ h. count_by (λ (row : Row). row.blob.number == n) h.rows) hosted

abbrev pub cached_with : ℕ → List Proxy → ℕ
cached_with n proxies = sum_by (λ (p : Proxy). count_by (λ (row : Row). row.blob.number == n) p.files) proxies

abbrev pub staged_with : ℕ → List Session → ℕ
staged_with n sessions = sum_by (λ (s : Session). count_by (λ (f : Staged). f.blob.number == n) s.staged) sessions

-- in how many places a blob number stands
abbrev pub places_of : State → ℕ → ℕ
places_of s n = count_of n s.yard.drafts + rows_with n s.hosted + cached_with n s.proxies + staged_with n s.sessions + count_of n s.yard.condemned

-- how many leases have a number
abbrev pub leases_of : State → ℕ → ℕ
leases_of s n = count_by (λ (l : Lease). l.number == n) s.yard.leases

-- no later one is the same as an earlier one, by a test
abbrev pub AreApartBy : {X : Type 0} → (X → X → Bool) → List X → Type 0
AreApartBy same [] = Unit {0}
AreApartBy same (x ∷ xs) = (find (same x) xs ≡ None) × AreApartBy same xs

-- no later file has the path of an earlier one
abbrev pub AreApart : List Staged → Type 0
AreApart = AreApartBy (λ (file : Staged). is_staged file.path)

-- a row that is visible, or fades since no earlier than a moment
abbrev pub LastsFrom : ℕ → Phase → Type 0
LastsFrom t listed = Unit {0}
LastsFrom t (fading since) = t ≤ since

-- a blob stands at a path, and was visible at a moment or later
abbrev pub Stands : List ℕ → Blob → ℕ → List Row → Type 0
Stands path blob t rows = (row : Row) × (row_at path rows ≡ Some row) × (row.blob ≡ blob) × LastsFrom t row.phase

-- a row as the tables keep it
abbrev pub without_bytes : Row → Row
without_bytes row = record row { blob = record row.blob { bytes = None } }
