-- A commit that was answered `done`, and its files after any later stop.
use Rattle.std.specs.Prelude.{◌≡◌, ℕ, List, [], ◌∷◌, ◌++◌, Some, None, Ok}
use Rattle.mvn_coords.specs.Kind.{kind}
use Rattle.mvn_coords.specs.Layout.{Coordinates}
use Rattle.mvn_coords.specs.declared.kind.Kind.TheVariants.{File}
use Rattle.repo_model.specs.declared.session.SessionResult.TheVariants.{Done}
use Rattle.repo_model.specs.Command.{commit}
use Rattle.repo_model.specs.Data.{Row, Session, Staged}
use Rattle.repo_model.specs.History.{after, end}
use Rattle.repo_model.specs.Deploy.{pom_of}
use Rattle.repo_model.specs.Paths.{file_at}
use Rattle.repo_model.specs.Reply.{ended}
use Rattle.repo_model.specs.Settings.{Settings}
use Rattle.repo_model.specs.State.{State, row_at, rows_of, session_of}
use Rattle.repo_model.specs.Tables.{Tables}
use Rattle.repo_laws.specs.Described.{IsAmong}
use Rattle.session_laws.specs.Ended.{IsResultOrMemory}
use Rattle.row_tables.specs.Crashes.{Unsettled}
use Rattle.crash_laws.specs.Crashes.{MayNotGo}
use Rattle.served_laws.specs.Crashed.{FindsSince, IsAnsweredStill, Made, entries_made}

-- Of what was made, a commit of this session returned that it is done with so many files. Where it was still open before, each file that was staged in
-- it, whose path is a file's, is a row of its repository with the fingerprint that was staged, which a start answers after a crash at any moment from
-- that return on, as long as no call may take it away; and so is the pom of the version directory of each staged file of a release. Each later commit of the
-- session is answered with the same result, unless memory runs out. Where the session had ended before, an earlier commit has done so.
pub record CommitOutlasts (settings : Settings) (start : State) (t : Tables) (old : Unsettled) (made : List Made) (n k : ℕ) : Type 0 where
  pub first : List Made
  pub m : Made
  pub later : List Made
  pub parts : made ≡ first ++ m ∷ later
  pub command_is : m.entry.command ≡ commit n
  pub reply_is : m.entry.reply ≡ ended (Done k)
  pub files : (one : Session) (file : Staged) (c : Coordinates) → session_of n (end settings start (entries_made first)) ≡ Some one → one.ended ≡ None → IsAmong file one.staged
      → kind file.path ≡ Ok (File c)
      → (row : Row) × (row.path ≡ file.path) × (row_at row.path (rows_of one.repo (after settings (end settings start (entries_made first)) m.entry)) ≡ Some row) × (row.blob.print ≡ file.blob.print)
      × ((soon rest : List Made) → later ≡ soon ++ rest → MayNotGo (entries_made soon) row.path
      → FindsSince settings start t old (IsAnsweredStill settings (first ++ m ∷ soon) one.repo row) (first ++ m ∷ []) soon)
  pub poms : (one : Session) (file : Staged) (at c : Coordinates) → session_of n (end settings start (entries_made first)) ≡ Some one → one.ended ≡ None → IsAmong file one.staged
      → file_at file.path ≡ Some at → at.build ≡ None → kind (pom_of at) ≡ Ok (File c)
      → (row : Row) × (row.path ≡ pom_of at) × (row_at row.path (rows_of one.repo (after settings (end settings start (entries_made first)) m.entry)) ≡ Some row)
      × ((soon rest : List Made) → later ≡ soon ++ rest → MayNotGo (entries_made soon) row.path
      → FindsSince settings start t old (IsAnsweredStill settings (first ++ m ∷ soon) one.repo row) (first ++ m ∷ []) soon)
  pub again : (between rest : List Made) (other : Made) → later ≡ between ++ other ∷ rest → other.entry.command ≡ commit n → IsResultOrMemory (Done k) other.entry.reply
