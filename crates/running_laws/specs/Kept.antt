-- What a desk of a server that still runs has answered, and what stands after a crash of it.
use Rattle.std.specs.Prelude.{◌≡◌, ℕ, List, [], ◌∷◌, ◌++◌, take, Some, Ok}
use Rattle.http_wire.specs.Front.{Whole, front}
use Rattle.http_wire.specs.Head.{Head}
use Rattle.repo_model.specs.declared.session.SessionResult.TheVariants.{Done}
use Rattle.repo_model.specs.Data.{repository}
use Rattle.repo_model.specs.History.{Entry}
use Rattle.repo_model.specs.Settings.{Settings}
use Rattle.repo_model.specs.State.{State}
use Rattle.repo_model.specs.Tables.{Tables}
use Rattle.row_tables.specs.Crashes.{Unsettled}
use Rattle.repo_routes.specs.Intent.{Judged, commits, puts_file}
use Rattle.repo_routes.specs.Judge.{judge}
use Rattle.repo_core.specs.Whole.{Whole as Core}
use Rattle.repo_course.specs.Serving.{Outside, RequestTurn}
use Rattle.repo_course.specs.declared.response.Response.{Response}
use Rattle.repo_course.specs.declared.response.Response.TheVariants.{Created, Ended}
use Rattle.closed_laws.specs.Streams.{Seen}
use Rattle.answer_laws.specs.Marked.{Mark}
use Rattle.run_desks.specs.Seen.{DeskResources, Looks, around}
use Rattle.turn_lock.specs.declared.view.Entry.{Entry as Call}
use Rattle.turn_lock.specs.History.{end_of}
use Rattle.turn_seats.specs.Seated.{Sight}
use Rattle.desk_work.specs.Visits.{Visit}
use Rattle.desk_laws.specs.Answered.{DeskAnswered, VisitsAnswered, marked_by}
use Rattle.served_laws.specs.Crashed.{Made, calls_made}
use Rattle.running_laws.specs.Answered.{IsAgain, PutAgainOutlasts, PutOutlasts, answer_to}
use Rattle.running_laws.specs.Committed.{CommitOutlasts}
use Rattle.running_laws.specs.Seen.{SoFarOutlasts}

module _ (settings : Settings) (start : State) (t : Tables) (old : Unsettled) (made : List Made) (tells : Type 0) where
  -- a turn, on a stream that told its input: where it answered 201 to the PUT of a file into a repository, or that the file stood, and where it answered a
  -- commit with `done`
  pub record TurnKeeps (from : Outside) (turn : Seen) : Type 0 where
    pub puts : (input came : List ℕ) (head : Head) (request : Judged) (repo path : List ℕ) (count : ℕ) (turned : RequestTurn settings tells turn.last turn.entries from turn.new turn.stop)
        → from.input ≡ Some input → front input ≡ Whole head came → judge settings head ≡ Ok request → request.intent ≡ puts_file (repository repo) path count
        → answer_to settings tells turn.last turn.entries from turn.new turn.stop turned ≡ Some Created
        → PutOutlasts settings start t old made tells repo path count came (take count came)
    pub again : (input came : List ℕ) (head : Head) (request : Judged) (repo path : List ℕ) (count : ℕ) (said : Response) (turned : RequestTurn settings tells turn.last turn.entries from turn.new turn.stop)
        → from.input ≡ Some input → front input ≡ Whole head came → judge settings head ≡ Ok request → request.intent ≡ puts_file (repository repo) path count
        → IsAgain said → answer_to settings tells turn.last turn.entries from turn.new turn.stop turned ≡ Some said
        → PutAgainOutlasts settings start t old made said repo path count came (take count came)
    pub commits : (input came : List ℕ) (head : Head) (request : Judged) (n k : ℕ) (turned : RequestTurn settings tells turn.last turn.entries from turn.new turn.stop)
        → from.input ≡ Some input → front input ≡ Whole head came → judge settings head ≡ Ok request → request.intent ≡ commits n
        → answer_to settings tells turn.last turn.entries from turn.new turn.stop turned ≡ Some (Ended (Done k))
        → CommitOutlasts settings start t old made n k

  -- so do these turns of a connection
  abbrev pub TurnsKeep : Outside → List Seen → Type 0
  TurnsKeep from [] = Unit {0}
  TurnsKeep from (turn ∷ turns) = TurnKeeps from turn × TurnsKeep turn.new turns

  -- and those of each of these connections
  abbrev pub VisitsKeep : {L P D : Type 0} (looks : Looks L P D) (marks : List Mark) (past : List Entry) (before : DeskResources) (visits : List (Visit L))
      → VisitsAnswered settings start marks looks past before visits → Type 0
  VisitsKeep looks marks past before [] answered = Unit {0}
  VisitsKeep looks marks past before (v ∷ vs) answered =
      TurnsKeep (around looks [] v.came before) answered.0.turns × VisitsKeep looks marks (past ++ v.entries) v.left vs answered.1

-- A desk has served these connections so far, by the history of all calls up to now, and that outlasts crashes: what it answered stands after each.
pub record DeskKeeps {L P D C R : Type 0} (looks : Looks L P D) (settings : Settings) (sight : Sight Core C R) (opened : Core) (before : Tables) (log : List (Call C R Core)) (desk back : D)
    : Type 0 where
  pub answered : DeskAnswered looks settings sight (sight.state opened) log desk back
  pub outlasts : SoFarOutlasts settings opened before (calls_made sight log) (end_of opened log)
  pub keeps : VisitsKeep settings (sight.state opened) outlasts.whole opened.unsettled (calls_made sight log) looks.tells looks (marked_by sight answered.number log) [] (looks.resources desk)
      answered.visits answered.answered
