-- What is visible of a repository after a commit.
use Rattle.std.specs.Prelude.{◌≡◌, ℕ, List, Some, None}
use Rattle.mvn_coords.specs.Layout.{Coordinates}
use Rattle.repo_model.specs.declared.print.Print.{Print}
use Rattle.repo_model.specs.Data.{Row, listed, Staged}
use Rattle.repo_model.specs.Paths.{file_at}
use Rattle.repo_model.specs.State.{row_at}
use Rattle.repo_model.specs.Deploy.{pom_of}

-- a visible row stands at a path
abbrev pub IsVisible : List ℕ → List Row → Type 0
IsVisible path rows = (row : Row) × (row_at path rows ≡ Some row) × (row.phase ≡ listed)

-- one with this fingerprint
abbrev pub IsVisibleAs : List ℕ → Print → List Row → Type 0
IsVisibleAs path print rows = (row : Row) × (row_at path rows ≡ Some row) × (row.phase ≡ listed) × (row.blob.print ≡ print)

-- where a staged file is a release's, the pom of its version directory is visible
abbrev pub HasItsPom : List Row → Staged → Type 0
HasItsPom rows file = (c : Coordinates) → file_at file.path ≡ Some c → c.build ≡ None → IsVisible (pom_of c) rows
