-- Why a command is refused: by the command, the cause of each refusal that it can get.
use Rattle.std.specs.Prelude.{◌≡◌, ◌≢◌, ℕ, ◌<◌, ◌≤◌, false, List, [], ◌∷◌, ◌++◌, length, find, count_by, Option, Some, None, Result, Ok, Err, IsTrue, true}
use Rattle.std.specs.Option.{option_map, option_and_then}
use Rattle.std.specs.List.{AllByRecursion}
use Rattle.std.specs.Ordering.{nat_cmp}
use Rattle.std.specs.declared.cmp.Ordering.TheVariants.{Less}
use Rattle.std.specs.Cmp.Lexicographic.{slice_cmp}
use Rattle.mvn_coords.specs.Kind.{kind}
use Rattle.mvn_coords.specs.declared.kind.Kind.{Kind}
use Rattle.mvn_coords.specs.declared.kind.Kind.TheVariants.{File, FileSide, Doc, DocSide}
use Rattle.mvn_coords.specs.declared.fault.PathFault.{PathFault}
use Rattle.mvn_coords.specs.declared.fault.Side.{Side}
use Rattle.mvn_coords.specs.Layout.{Coordinates, text_of, version_directory_of}
use Rattle.mvn_digest.specs.Sides.{side_of}
use Rattle.repo_model.specs.declared.print.Print.{Print}
use Rattle.repo_model.specs.Data.{Blob, Row, Staged, Session, Place, repository, session, Hosted}
use Rattle.repo_model.specs.Paths.{file_at}
use Rattle.repo_model.specs.Document.{listed_in}
use Rattle.repo_model.specs.State.{State, row_at, rows_of, session_of, open_of, is_open, is_staged, is_among, number_end, most_sessions, most_staged, hosted_of}
use Rattle.repo_model.specs.Command.{Command, look, may_put, put, put_side, put_doc, open_session, stage, commit, abort, land}
use Rattle.repo_model.specs.Reply.{Reply, missed, kind_refused, no_draft, taken, not_there, differs, no_session, sessions_full, session_full, offends, missing_pom, spent, blocked, negative, never_asked}
use Rattle.repo_model.specs.Deploy.{has_pom, pom_of}
use Rattle.repo_model.specs.Turn.{staged_at, Seen, is_nothing, is_blocked, is_negative, is_never, is_file, is_to_fetch, look_at}
use Rattle.repo_laws.specs.Laws.{AnyByRecursion}
use Rattle.repo_laws.specs.Replies.{takes_at}
use Rattle.repo_model.specs.Settings.{Settings}

-- there is nothing at a path: no row of the file, or no visible row of the directory
abbrev pub HasNothing : List Row → List ℕ → Result Kind PathFault → Type 0
HasNothing rows path (Ok (File c)) = row_at path rows ≡ None
HasNothing rows path (Ok (FileSide c side)) = row_at (text_of c) rows ≡ None
HasNothing rows path (Ok (Doc d)) = listed_in d rows ≡ []
HasNothing rows path (Ok (DocSide d side)) = listed_in d rows ≡ []
HasNothing rows path (Err fault) = Unit {0}

-- a file is at a path
abbrev pub HasFile : List Row → List ℕ → Type 0
HasFile rows path = (c : Coordinates) × (row : Row) × (kind path ≡ Ok (File c)) × (row_at path rows ≡ Some row)

-- why a look at a hosted repository is refused
abbrev pub HostedRefused : State → List Row → List ℕ → Reply → Type 0
HostedRefused s rows path missed = HasNothing rows path (kind path)
HostedRefused s rows path spent = HasFile rows path × (s.yard.next_lease ≡ number_end)
HostedRefused s rows path reply = ⊥

-- why one at a proxy or a group is, by what is decided there: nothing, or a number is wanting for the file or for its fetch
abbrev pub SeenRefused : State → Seen → Reply → Type 0
SeenRefused s is_nothing missed = Unit {0}
SeenRefused s is_blocked blocked = Unit {0}
SeenRefused s is_negative negative = Unit {0}
SeenRefused s is_never never_asked = Unit {0}
SeenRefused s (is_file blob) spent = s.yard.next_lease ≡ number_end
SeenRefused s (is_to_fetch member rule path true) spent = s.yard.next_draft ≡ number_end
SeenRefused s seen reply = ⊥

abbrev pub RefusedAt : Settings → State → ℕ → List ℕ → List ℕ → List ℕ → Reply → Option Hosted → Type 0
RefusedAt settings s now id path tried reply (Some h) = HostedRefused s h.rows path reply
RefusedAt settings s now id path tried reply None = SeenRefused s (look_at settings s now id tried path) reply

abbrev pub LookRefused : Settings → State → ℕ → List ℕ → List ℕ → List ℕ → Reply → Type 0
LookRefused settings s now id path tried reply = RefusedAt settings s now id path tried reply (hosted_of id s)

-- so many files are staged as may be, none of them at the path
abbrev pub IsFull : List ℕ → List Staged → Type 0
IsFull path files = (most_staged ≤ length files) × (find (is_staged path) files ≡ None)

abbrev pub MayPutRefused : State → Place → List ℕ → Reply → Type 0
MayPutRefused s (repository repo) path kind_refused = takes_at repo path s ≡ false
MayPutRefused s (repository repo) path spent = IsTrue (takes_at repo path s) × (s.yard.next_draft ≡ number_end)
MayPutRefused s (session n) path no_session = open_of n s ≡ None
MayPutRefused s (session n) path kind_refused = (one : Session) × (open_of n s ≡ Some one) × (takes_at one.repo path s ≡ false)
MayPutRefused s (session n) path session_full = (one : Session) × (open_of n s ≡ Some one) × IsTrue (takes_at one.repo path s) × IsFull path one.staged
MayPutRefused s (session n) path spent =
    (one : Session) × (open_of n s ≡ Some one) × IsTrue (takes_at one.repo path s) × (IsFull path one.staged → ⊥) × (s.yard.next_draft ≡ number_end)
MayPutRefused s place path reply = ⊥

abbrev pub PutRefused : State → List ℕ → List ℕ → ℕ → Blob → Reply → Type 0
PutRefused s repo path n blob no_draft = is_among n s.yard.drafts ≡ false
PutRefused s repo path n blob (taken kept sent) =
    (row : Row) × IsTrue (is_among n s.yard.drafts) × (row_at path (rows_of repo s) ≡ Some row) × (row.blob.print ≡ kept) × (blob.print ≡ sent) × (kept ≢ sent)
PutRefused s repo path n blob reply = ⊥

-- a repository, or a session that is open
abbrev pub IsOpenPlace : State → Place → Type 0
IsOpenPlace s (repository repo) = Unit {0}
IsOpenPlace s (session n) = (one : Session) × (open_of n s ≡ Some one)

abbrev pub IsClosedPlace : State → Place → Type 0
IsClosedPlace s (repository repo) = ⊥
IsClosedPlace s (session n) = open_of n s ≡ None

-- the blob of the file at a path of a place
abbrev pub blob_at : State → Place → List ℕ → Option Blob
blob_at s (repository repo) path = option_map (λ (row : Row). row.blob) (row_at path (rows_of repo s))
blob_at s (session n) path = option_and_then (λ (one : Session). staged_at path one.staged) (open_of n s)

abbrev pub SideRefused : State → Place → List ℕ → List ℕ → Reply → Type 0
SideRefused s place path said no_session = IsClosedPlace s place
SideRefused s place path said not_there =
    (c : Coordinates) × (side : Side) × IsOpenPlace s place × (kind path ≡ Ok (FileSide c side)) × (blob_at s place (text_of c) ≡ None)
SideRefused s place path said (differs sent kept) =
    (c : Coordinates) × (side : Side) × (blob : Blob) × IsOpenPlace s place × (kind path ≡ Ok (FileSide c side)) × (blob_at s place (text_of c) ≡ Some blob)
    × (side_of blob.print.digests side ≡ kept) × (said ≡ sent) × (sent ≢ kept)
SideRefused s place path said reply = ⊥

abbrev pub DocRefused : State → Place → Reply → Type 0
DocRefused s place no_session = IsClosedPlace s place
DocRefused s place reply = ⊥

abbrev pub OpenRefused : State → Reply → Type 0
OpenRefused s sessions_full = most_sessions ≤ count_by is_open s.sessions
OpenRefused s spent = (count_by is_open s.sessions < most_sessions) × (s.yard.next_session ≡ number_end)
OpenRefused s reply = ⊥

abbrev pub StageRefused : State → ℕ → List ℕ → ℕ → Blob → Reply → Type 0
StageRefused s at path n blob no_draft = is_among n s.yard.drafts ≡ false
StageRefused s at path n blob no_session = IsTrue (is_among n s.yard.drafts) × (open_of at s ≡ None)
StageRefused s at path n blob session_full =
    (one : Session) × IsTrue (is_among n s.yard.drafts) × (open_of at s ≡ Some one) × IsFull path one.staged
StageRefused s at path n blob (taken kept sent) =
    (one : Session) × (file : Staged) × IsTrue (is_among n s.yard.drafts) × (open_of at s ≡ Some one) × (find (is_staged path) one.staged ≡ Some file)
    × (file.blob.print ≡ kept) × (blob.print ≡ sent) × (kept ≢ sent)
StageRefused s at path n blob reply = ⊥

-- a row of another content stands at the path of a staged file
abbrev pub Offends : List Row → Staged → Row → Type 0
Offends rows file row = (row_at file.path rows ≡ Some row) × (row.blob.print ≢ file.blob.print)

abbrev pub OffendsNot : List Row → Staged → Type 0
OffendsNot rows file = (row : Row) → row_at file.path rows ≡ Some row → row.blob.print ≡ file.blob.print

-- the first of these files that offends, with both fingerprints
abbrev pub IsFirstOffence : List Row → List Staged → List ℕ → Print → Print → Type 0
IsFirstOffence rows files path kept sent =
    (before : List Staged) × (file : Staged) × (later : List Staged) × (row : Row) × (files ≡ before ++ file ∷ later) × AllByRecursion (OffendsNot rows) before
    × Offends rows file row × (file.path ≡ path) × (row.blob.print ≡ kept) × (file.blob.print ≡ sent)

-- a release's version directory with a staged file, whose pom is neither staged nor visible
abbrev pub LacksPom : List Row → List Staged → List ℕ → Type 0
LacksPom rows files directory =
    AnyByRecursion
    (λ (file : Staged). (c : Coordinates) × (file_at file.path ≡ Some c) × (c.build ≡ None) × (version_directory_of c ≡ directory) × (has_pom rows files (pom_of c) ≡ false))
    files

-- the first of them in byte order
abbrev pub IsFirstWithoutPom : List Row → List Staged → List ℕ → Type 0
IsFirstWithoutPom rows files directory =
    LacksPom rows files directory × ((other : List ℕ) → LacksPom rows files other → slice_cmp nat_cmp other directory ≢ Less)

abbrev pub CommitRefused : State → ℕ → Reply → Type 0
CommitRefused s n no_session = session_of n s ≡ None
CommitRefused s n (offends path kept sent) =
    (one : Session) × (session_of n s ≡ Some one) × (one.ended ≡ None) × IsFirstOffence (rows_of one.repo s) one.staged path kept sent
CommitRefused s n (missing_pom directory) =
    (one : Session) × (session_of n s ≡ Some one) × (one.ended ≡ None) × AllByRecursion (OffendsNot (rows_of one.repo s)) one.staged
    × IsFirstWithoutPom (rows_of one.repo s) one.staged directory
CommitRefused s n reply = ⊥

abbrev pub AbortRefused : State → ℕ → Reply → Type 0
AbortRefused s n no_session = session_of n s ≡ None
AbortRefused s n reply = ⊥

-- what lands stands under a draft that is none any more
abbrev pub LandRefused : State → Option ℕ → Reply → Type 0
LandRefused s (Some n) no_draft = is_among n s.yard.drafts ≡ false
LandRefused s under reply = ⊥

-- the cause of a refusal, by the command; without one the command can't get it
abbrev pub Cause : Settings → State → ℕ → Command → Reply → Type 0
Cause settings s now (look repo path tried) reply = LookRefused settings s now repo path tried reply
Cause settings s now (may_put place path) reply = MayPutRefused s place path reply
Cause settings s now (put repo path n blob) reply = PutRefused s repo path n blob reply
Cause settings s now (put_side place path said) reply = SideRefused s place path said reply
Cause settings s now (put_doc place path) reply = DocRefused s place reply
Cause settings s now (open_session repo) reply = OpenRefused s reply
Cause settings s now (stage at path n blob) reply = StageRefused s at path n blob reply
Cause settings s now (commit n) reply = CommitRefused s n reply
Cause settings s now (abort n) reply = AbortRefused s n reply
Cause settings s now (land plan outcome) reply = LandRefused s plan.draft reply
Cause settings s now command reply = ⊥
