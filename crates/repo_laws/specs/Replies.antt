-- Words of the laws on replies: refusals and what they give up, entries that spend a draft, replies that may change rows, entries that ask alike, and the moments of a history.
use Rattle.std.specs.Prelude.{◌≡◌, ◌↔◌, ℕ, Bool, true, false, not, ◌&&◌, ◌==◌, List, [], ◌∷◌, map, Option, None, Some}
use Rattle.repo_model.specs.declared.session.SessionResult.TheVariants.{Aborted, Done}
use Rattle.repo_model.specs.Paths.{takes}
use Rattle.repo_model.specs.State.{State, hosted_of, open_of}
use Rattle.repo_model.specs.Effect.{Effect, drops}
use Rattle.repo_model.specs.Command.{Command, put, stage, drop_draft, land, is_fit}
use Rattle.repo_model.specs.Reply.{Reply, file, text, doc, missed, given_back, kind_refused, draft, no_draft, taken, same, relisted, created, not_there, differs, agreed, noted, dropped, no_session, sessions_full, opened, session_full, staged, offends, missing_pom, ended, unlisted, collected, finds, spent, no_memory, store_fault, fetches, blocked, negative, never_asked, landed, is_free}
use Rattle.repo_model.specs.Turn.{has_room}
use Rattle.repo_model.specs.History.{Entry}

-- the replies that refuse a command
abbrev pub is_refusal : Reply → Bool
is_refusal (file lease blob) = false
is_refusal (text bytes) = false
is_refusal (doc bytes digests) = false
is_refusal missed = true
is_refusal given_back = false
is_refusal kind_refused = true
is_refusal (draft n) = false
is_refusal no_draft = true
is_refusal (taken kept sent) = true
is_refusal same = false
is_refusal relisted = false
is_refusal created = false
is_refusal not_there = true
is_refusal (differs said kept) = true
is_refusal agreed = false
is_refusal noted = false
is_refusal dropped = false
is_refusal no_session = true
is_refusal sessions_full = true
is_refusal (opened n) = false
is_refusal session_full = true
is_refusal staged = false
is_refusal (offends path kept sent) = true
is_refusal (missing_pom directory) = true
is_refusal (ended result) = false
is_refusal (unlisted n) = false
is_refusal (collected expired blobs) = false
is_refusal (finds finding) = false
is_refusal spent = true
is_refusal (fetches plan) = false
is_refusal blocked = true
is_refusal negative = true
is_refusal never_asked = true
is_refusal landed = false
is_refusal no_memory = true
is_refusal store_fault = true

-- what a refused command does: a blob that was sent for nothing is given up
abbrev pub given_up : Command → Reply → List Effect
given_up (put repo path n blob) (taken kept sent) = drops n ∷ []
given_up (stage at path n blob) (taken kept sent) = drops n ∷ []
given_up (stage at path n blob) no_session = drops n ∷ []
given_up (stage at path n blob) session_full = drops n ∷ []
given_up command reply = []

-- what lands stands under this draft
abbrev pub is_under : ℕ → Option ℕ → Bool
is_under n None = false
is_under n (Some m) = m == n

-- a command puts, stages, lands or drops this draft
abbrev pub uses_draft : ℕ → Command → Bool
uses_draft n (put repo path m blob) = m == n
uses_draft n (stage at path m blob) = m == n
uses_draft n (drop_draft m) = m == n
uses_draft n (land plan outcome) = is_under n plan.draft
uses_draft n command = false

-- a reply gives a draft: by itself, or with what is to be fetched
abbrev pub GivesDraft : ℕ → Reply → Type 0
GivesDraft n (draft m) = m ≡ n
GivesDraft n (fetches plan) = plan.draft ≡ Some n
GivesDraft n reply = ⊥

-- the replies after which a draft stands as it did
abbrev pub leaves_drafts : Reply → Bool
leaves_drafts no_draft = true
leaves_drafts reply = is_free reply

-- an entry spends a draft, whether the file is taken or not
abbrev pub spends : ℕ → Entry → Bool
spends n e = uses_draft n e.command && not (leaves_drafts e.reply)

-- the replies of turns that may change rows
abbrev pub may_change_rows : Reply → Bool
may_change_rows (file lease blob) = false
may_change_rows (text bytes) = false
may_change_rows (doc bytes digests) = false
may_change_rows missed = false
may_change_rows given_back = false
may_change_rows kind_refused = false
may_change_rows (draft n) = false
may_change_rows no_draft = false
may_change_rows (taken kept sent) = false
may_change_rows same = false
may_change_rows relisted = true
may_change_rows created = true
may_change_rows not_there = false
may_change_rows (differs said kept) = false
may_change_rows agreed = false
may_change_rows noted = false
may_change_rows dropped = false
may_change_rows no_session = false
may_change_rows sessions_full = false
may_change_rows (opened n) = false
may_change_rows session_full = false
may_change_rows staged = false
may_change_rows (offends path kept sent) = false
may_change_rows (missing_pom directory) = false
may_change_rows (ended Aborted) = false
may_change_rows (ended (Done n)) = true
may_change_rows (unlisted n) = true
may_change_rows (collected expired blobs) = true
may_change_rows (finds finding) = false
may_change_rows spent = false
may_change_rows (fetches plan) = false
may_change_rows blocked = false
may_change_rows negative = false
may_change_rows never_asked = false
may_change_rows landed = false
may_change_rows no_memory = false
may_change_rows store_fault = false

-- a repository is there and takes the file of a path
abbrev pub takes_at : List ℕ → List ℕ → State → Bool
takes_at repo path s = is_fit (λ h. takes h.rule path) (hosted_of repo s)

-- a session is open, its repository takes the file of a path, and the path is staged or there is room for it
abbrev pub takes_in : ℕ → List ℕ → State → Bool
takes_in n path s = is_fit (λ one. takes_at one.repo path s && has_room path one.staged) (open_of n s)

-- the same command at the same moment; memory is wanted in both or in neither, and the records fail alike
pub record AsksAlike (one other : Entry) : Type 0 where
  pub command : one.command ≡ other.command
  pub moment : one.moment ≡ other.moment
  pub memory : (one.reply ≡ no_memory) ↔ (other.reply ≡ no_memory)
  pub store : (one.reply ≡ store_fault) ↔ (other.reply ≡ store_fault)
  pub faults : one.faults ≡ other.faults

-- the last moment of a state, and then those of the entries
abbrev pub moments_of : State → List Entry → List ℕ
moments_of start entries = start.last ∷ map (λ e. e.moment) entries
