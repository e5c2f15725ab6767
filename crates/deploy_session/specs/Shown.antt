-- Sessions and their files as the machine's plain data.
use Rattle.std.specs.Prelude.{◌≡◌, ℕ, if◌then◌else◌, List, [], ◌∷◌, map, Option, Some, None, Result, Ok, Err}
use Rattle.outside.specs.declared.stores.Held.{Ghosts}
use Rattle.repo_model.specs.declared.print.Print.{Print}
use Rattle.repo_model.specs.Data as plain
use Rattle.repo_model.specs.Data.{Blob, is_same_print}
use Rattle.repo_model.specs.declared.session.SessionResult.TheVariants as ends
use Rattle.repo_model.specs.Reply.{Reply, no_session, sessions_full, spent, opened, session_full, taken, same, staged, offends, missing_pom, ended, no_memory, store_fault}
use Rattle.repo_model.specs.Effect.{drops}
use Rattle.repo_model.specs.Turn.{Turn}
pub use Rattle.hosted_delivery.specs.Deliveries.{shown_file, shown_files}
use Rattle.deploy_session.specs.declared.answers.Abort.{Abort}
use Rattle.deploy_session.specs.declared.answers.Abort.TheVariants as gave_up
use Rattle.deploy_session.specs.declared.answers.Begin.{Begin}
use Rattle.deploy_session.specs.declared.answers.Begin.TheVariants as began
use Rattle.deploy_session.specs.declared.answers.Commit.{Commit}
use Rattle.deploy_session.specs.declared.answers.Commit.TheVariants as came_to
use Rattle.deploy_session.specs.declared.answers.Stage.{Stage}
use Rattle.deploy_session.specs.declared.answers.Stage.TheVariants as did
use Rattle.deploy_session.specs.declared.answers.Standing.{Standing}
use Rattle.deploy_session.specs.declared.answers.Standing.TheVariants as stands
use Rattle.deploy_session.specs.declared.known.Session.{Session}

module _ {X : Type 0} {G : Ghosts X} where
  abbrev pub shown_session : ℕ × Session X G → plain.Session
  shown_session e = record { number = e.0; repo = e.1.repo; staged = shown_files e.1.files.entries; ended = e.1.ended }

  abbrev pub shown_sessions : List (ℕ × Session X G) → List plain.Session
  shown_sessions entries = map shown_session entries

-- the replies that say what the calls did
abbrev pub shown_begin : Begin → Reply
shown_begin began.TooMany = sessions_full
shown_begin began.Spent = spent
shown_begin began.StoreFault = store_fault
shown_begin began.NoMemory = no_memory
shown_begin (began.Opened n) = opened n

abbrev pub shown_abort : Abort → Reply
shown_abort gave_up.NoSession = no_session
shown_abort (gave_up.Done count) = ended (ends.Done count)
shown_abort gave_up.StoreFault = store_fault
shown_abort gave_up.NoMemory = no_memory
shown_abort (gave_up.Aborted blobs) = ended ends.Aborted

-- the blobs that an abort left to nobody
abbrev pub blobs_left : Abort → List ℕ
blobs_left (gave_up.Aborted blobs) = blobs
blobs_left answer = []

abbrev pub shown_commit : Commit → Reply
shown_commit came_to.NoSession = no_session
shown_commit (came_to.Offends path kept sent) = offends path kept sent
shown_commit (came_to.MissingPom dir) = missing_pom dir
shown_commit came_to.StoreFault = store_fault
shown_commit came_to.NoMemory = no_memory
shown_commit (came_to.Done count blobs) = ended (ends.Done count)
shown_commit came_to.Aborted = ended ends.Aborted

-- the blobs that no row took at a commit
abbrev pub blobs_over : Commit → List ℕ
blobs_over (came_to.Done count blobs) = blobs
blobs_over answer = []

abbrev pub shown_stage : Stage → Reply
shown_stage did.NoSession = no_session
shown_stage did.SessionFull = session_full
shown_stage (did.Taken kept sent) = taken kept sent
shown_stage did.Same = same
shown_stage did.Staged = staged
shown_stage did.NoMemory = no_memory

-- a blob may be staged, or the turn is a refusal that gives its draft up
abbrev pub IsJudged : Result (Unit {0}) Stage → ℕ → Turn → Type 0
IsJudged (Ok done) draft turn = turn.reply ≡ staged
IsJudged (Err answer) draft turn = turn ≡ record { reply = shown_stage answer; effects = drops draft ∷ [] }

-- what stands at a path, beside a content of a fingerprint
abbrev pub standing : Print → Option Blob → Standing
standing sent None = stands.Free
standing sent (Some blob) = if is_same_print blob.print sent then stands.Same else stands.Other blob.print
