-- What a file that is deployed makes of the document of a directory.
use Rattle.std.specs.Prelude.{ℕ, List, Option, Some, None}
use Rattle.mvn_coords.specs.Layout.{Directory}
use Rattle.mvn_metadata.specs.Document.{Document}
use Rattle.repo_model.specs.Data.{Blob, Phase, Row, fading, listed}
use Rattle.repo_model.specs.Effect.{new_row}
use Rattle.directory_rows.specs.Documents.{added}

abbrev pub with_delivered_by : Directory → List ℕ → ℕ → Blob → Phase → Option Document → Option Document
with_delivered_by d path now blob listed doc = doc
with_delivered_by d path now blob (fading since) doc = added d doc (new_row path blob now)

-- a file at a path without a row, or with one that fades, is one more visible row
abbrev pub with_delivered : Directory → List ℕ → ℕ → Blob → Option Row → Option Document → Option Document
with_delivered d path now blob None doc = added d doc (new_row path blob now)
with_delivered d path now blob (Some row) doc = with_delivered_by d path now blob row.phase doc
