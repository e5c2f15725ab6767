-- A PUT that was answered 201, and its file after any later stop.
use Rattle.std.specs.Prelude.{◌≡◌, ◌≤◌, ℕ, Bool, List, [], ◌∷◌, ◌++◌, length, Option, Some, None}
use Rattle.outside.specs.Blobs.{Shelf, bytes_at, standing_at}
use Rattle.std.specs.Option.{ForSome}
use Rattle.outside.specs.Moments.{Moments}
use Rattle.repo_model.specs.Command.{look, put}
use Rattle.repo_model.specs.Data.{Blob, Row}
use Rattle.repo_model.specs.Effect.{new_row}
use Rattle.repo_model.specs.History.{Entry, Legal, after, end}
use Rattle.repo_model.specs.Reply.{Reply, created, relisted, same}
use Rattle.repo_model.specs.Restart.{started}
use Rattle.repo_model.specs.Settings.{Settings}
use Rattle.repo_model.specs.State.{State, row_at, rows_of}
use Rattle.repo_model.specs.Tables.{Tables}
use Rattle.repo_laws.specs.Closed.{all_given_out}
use Rattle.repo_laws.specs.Holds.{InOrder}
use Rattle.repo_laws.specs.InRange.{Completes, InRange, IsSameBlob}
use Rattle.row_tables.specs.Crashes.{Unsettled}
use Rattle.crash_laws.specs.Found.{KeepsOthers}
use Rattle.crash_laws.specs.Crashes.{MayNotGo}
use Rattle.repo_course.specs.Course.{Course, asks, does, says, stops}
use Rattle.repo_course.specs.Serving.{Follows, Outside, RequestTurn, print_of}
use Rattle.repo_course.specs.declared.outcomes.End.{End}
use Rattle.repo_course.specs.declared.response.Response.{Response}
use Rattle.repo_course.specs.declared.response.Response.TheVariants.{Created, Relisted, Same}
use Rattle.closed_laws.specs.Answered.{ReadShows}
use Rattle.closed_laws.specs.Named.{ShowsNamed}
use Rattle.served_laws.specs.Crashed.{FindsSince, IsAnsweredStill, Made, entries_made}

-- what a course that was followed answers; nothing where it ends with no answer
abbrev pub answer_in : (tells : Type 0) (c : Course) (entries : List Entry) (old new : Outside) (end : Option End) → Follows tells c entries old new end → Option Response
answer_in tells (asks command next) [] old new end f = None
answer_in tells (asks command next) (entry ∷ entries) old new end f = answer_in tells (next entry.reply) entries old new end f.1
answer_in tells (does io_action next) entries old new end f = answer_in tells (next f.0) f.2 f.3 new end f.6
answer_in tells (says said mode) entries old new end f = Some said
answer_in tells (stops next) entries old new end f = None

-- a course was followed to this answer
abbrev pub FollowsTo : Response → Type 0 → Course → List Entry → Outside → Outside → Option End → Type 0
FollowsTo said tells c entries old new end = (f : Follows tells c entries old new end) × (answer_in tells c entries old new end f ≡ Some said)

-- a turn was answered so
abbrev pub answer_to : (settings : Settings) (tells : Type 0) (last : Bool) (entries : List Entry) (old new : Outside) (end : Option End) → RequestTurn settings tells last entries old new end → Option Response
answer_to settings tells last entries old new end turn = answer_in tells turn.0 entries turn.1 new end turn.3

-- Of tables that are found after a crash: a start over them, under the same settings, once it has completed them, over blobs that keep what was
-- acknowledged but what was given out, among it these bytes under the row's number; any entries that may not take the file; and a turn whose
-- first entry looks there. The turn is a GET or HEAD of the path, and shows the file, with the number and the fingerprint, and with these bytes;
-- or its alternatives.
abbrev pub IsReadAfter : (settings : Settings) (tells : Type 0) (gone repo : List ℕ) (row : Row) (body : List ℕ) (u : Tables) → Type 0
IsReadAfter settings tells gone repo row body u =
    (acknowledged found : Shelf) (stored_tells : ℕ → Option (List ℕ)) (stored : List ℕ) (clock : Option Moments) (faults : ℕ) (whole : Tables)
    (before later more : List Entry) (e : Entry) (tried : List ℕ) (last : Bool) (old new : Outside) (stop : Option End)
    → standing_at row.blob.number acknowledged ≡ Some body → KeepsOthers gone acknowledged found
    → ForSome found.blobs (λ them. ((n : ℕ) → stored_tells n ≡ bytes_at n them)
    → InOrder u → InRange u → Completes u whole → Legal settings (started settings stored_tells stored clock faults whole) (before ++ e ∷ later) → MayNotGo before row.path
    → RequestTurn settings tells last (e ∷ more) old new stop → e.command ≡ look repo row.path tried
    → (kept : Blob) × IsSameBlob kept row.blob × (kept.bytes ≡ Some body)
    × ReadShows settings last repo row.path (ShowsNamed (end settings (started settings stored_tells stored clock faults whole) before) kept) old new stop)

-- Of what was made, a `Put` of this path returned `Created`; its body came, all of it; and as long as no call takes the file away, it is read
-- with that body after a crash at any moment from that return on.
pub record PutOutlasts (settings : Settings) (start : State) (t : Tables) (old : Unsettled) (made : List Made) (tells : Type 0) (repo path : List ℕ) (count : ℕ) (came body : List ℕ) : Type 0 where
  pub first : List Made
  pub m : Made
  pub later : List Made
  pub n : ℕ
  pub blob : Blob
  pub parts : made ≡ first ++ m ∷ later
  pub command_is : m.entry.command ≡ put repo path n blob
  pub reply_is : m.entry.reply ≡ created
  pub whole : count ≤ length came
  pub print_is : blob.print ≡ print_of body
  pub outlasts : (soon rest : List Made) → later ≡ soon ++ rest → MayNotGo (entries_made soon) path
      → FindsSince settings start t old (IsReadAfter settings tells (all_given_out (entries_made (first ++ m ∷ soon))) repo (new_row path blob m.entry.moment) body) (first ++ m ∷ []) soon

-- the reply to a `Put` of which a response tells that its file stands then
abbrev pub PutReply : Response → Reply → Type 0
PutReply Created reply = reply ≡ created
PutReply Same reply = reply ≡ same
PutReply Relisted reply = reply ≡ relisted
PutReply _ reply = ⊥

-- a response that tells that the file stood before, visible or fading
abbrev pub IsAgain : Response → Type 0
IsAgain Same = Unit {0}
IsAgain Relisted = Unit {0}
IsAgain _ = ⊥

-- Of what was made, a `Put` of this path returned that its file stood; its body came, all of it, and after that return a row stands at the path, with the
-- length and the digests of this body. Where the file was fading it is listed again, which is recorded: so a start answers it after a crash at each moment
-- from that return on, as long as no call may take it away. Where it was visible nothing is recorded, and the call that did so says what outlasts.
pub record PutAgainOutlasts (settings : Settings) (start : State) (t : Tables) (old : Unsettled) (made : List Made) (said : Response) (repo path : List ℕ) (count : ℕ) (came body : List ℕ) : Type 0 where
  pub first : List Made
  pub m : Made
  pub later : List Made
  pub n : ℕ
  pub blob : Blob
  pub parts : made ≡ first ++ m ∷ later
  pub command_is : m.entry.command ≡ put repo path n blob
  pub reply_is : PutReply said m.entry.reply
  pub whole : count ≤ length came
  pub row : Row
  pub path_is : row.path ≡ path
  pub stands : row_at path (rows_of repo (after settings (end settings start (entries_made first)) m.entry)) ≡ Some row
  pub content_is : row.blob.print ≡ print_of body
  pub outlasts : m.entry.reply ≡ relisted → (soon rest : List Made) → later ≡ soon ++ rest → MayNotGo (entries_made soon) row.path
      → FindsSince settings start t old (IsAnsweredStill settings (first ++ m ∷ soon) repo row) (first ++ m ∷ []) soon
