-- A worked case: a release is put, the document of its versions is asked for, and the file is looked at at the end of the grace.
use Rattle.std.specs.Prelude.{List, [], ◌∷◌, None}
use Rattle.repo_model.specs.Command.{look, may_put, put}
use Rattle.repo_model.specs.Data.{Row, listed, repository}
use Rattle.repo_model.specs.History.{Entry, end}
use Rattle.repo_model.specs.Reply.{created, draft, file}
use Rattle.repo_model.specs.State.{State, opening}
use Rattle.repo_model.specs.Turn.{turn}
use Rattle.repo_laws.specs.Worked.{abc, artifact_document, at, release_jar, releases, shop}

abbrev pub empty : State
empty = opening shop None

abbrev pub release_put : List Entry
release_put = at 1000 (may_put (repository releases) release_jar) (draft 1) ∷ at 1000 (put releases release_jar 1 (abc 1)) created ∷ []

-- the reply is the one that is due
abbrev pub document_asked : Entry
document_asked = at 1010 (look releases artifact_document []) (turn shop (end shop empty release_put) 1010 (look releases artifact_document [])).reply

abbrev pub file_looked : Entry
file_looked = at 1070 (look releases release_jar []) (file 1 (abc 1))

abbrev pub release_row : Row
release_row = record { path = release_jar; blob = abc 1; accepted = 1000; phase = listed }
