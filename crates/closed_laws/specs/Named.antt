-- What is seen of a file that a served document names.
use Rattle.std.specs.Prelude.{◌≡◌, ◌⊎◌, ℕ, ◌+◌, ◌≤◌, List, ◌∷◌, ◌++◌, Option, Ok}
use Rattle.mvn_coords.specs.Kind.{kind}
use Rattle.mvn_coords.specs.Layout.{Coordinates, Directory, text_of}
use Rattle.mvn_coords.specs.declared.fault.Side.{Side}
use Rattle.mvn_coords.specs.declared.kind.Kind.TheVariants.{FileSide}
use Rattle.mvn_digest.specs.Sides.{side_text}
use Rattle.mvn_metadata.specs.Document.{Document}
use Rattle.repo_model.specs.Data.{Blob, Row}
use Rattle.repo_model.specs.History.{Entry, end}
use Rattle.repo_model.specs.Settings.{Settings}
use Rattle.repo_model.specs.State.{State, number_end, rows_of}
use Rattle.repo_laws.specs.Closed.{AnswersDocument, named}
use Rattle.repo_laws.specs.Described.{IsAmong}
use Rattle.repo_course.specs.Serving.{Outside}
use Rattle.repo_course.specs.declared.mode.ResponseMode.{ResponseMode}
use Rattle.repo_course.specs.declared.outcomes.End.{End}
use Rattle.repo_course.specs.declared.response.Response.TheVariants as response
use Rattle.closed_laws.specs.Answered.{ShowsFile, ShowsResponse}

-- one of these entries answered a repository's document, or a side file of it, that names this row's file, and the grace after
-- its moment is not over
pub record WasNamed (settings : Settings) (start : State) (before : List Entry) (repo : List ℕ) (row : Row) (now : ℕ) : Type 0 where
  pub first : List Entry
  pub asked : Entry
  pub rest : List Entry
  pub parts : before ≡ first ++ asked ∷ rest
  pub directory : Directory
  pub served : Document
  pub answers : AnswersDocument settings (end settings start first) asked repo directory served
  pub names : IsAmong row (named directory (rows_of repo (end settings start first)) served)
  pub in_time : now ≤ asked.moment + settings.grace

-- the answer with the file of this blob, with the alternatives that it has; or 500 `spent` where no lease is left
abbrev pub ShowsNamed : State → Blob → ResponseMode → Outside → Outside → Option End → Type 0
ShowsNamed s blob mode old new end =
    ShowsFile mode blob old new end ⊎ ((s.yard.next_lease ≡ number_end) × ShowsResponse mode response.Spent old new end)

-- the answer with the text of a side file of this blob
abbrev pub ShowsSide : Side → Blob → ResponseMode → Outside → Outside → Option End → Type 0
ShowsSide side blob mode old new end = ShowsResponse mode (response.Text (side_text side blob.print.digests)) old new end

-- the path is that of a side file of the file at another
abbrev pub IsSideOf : List ℕ → Side → List ℕ → Type 0
IsSideOf path side at = (c : Coordinates) × (kind at ≡ Ok (FileSide c side)) × (text_of c ≡ path)
