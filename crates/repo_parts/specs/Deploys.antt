-- Deployment sessions at the repository: what staged files, sessions and their ends do to the numbers and to the rows.
use Rattle.std.specs.Prelude.{◌≡◌, ◌⊎◌, ℕ, ◌+◌, List, [], ◌∷◌, Option, Some, None, find, IsTrue}
use Rattle.std.specs.List.{AllByRecursion}
use Rattle.repo_model.specs.Data.{Hosted, Session, Staged}
use Rattle.repo_model.specs.State.{Yard, is_among, is_session}
use Rattle.repo_model.specs.Effect.{Effect, draws, drops, hosted_after, with_number, without_draft, yard_after}
use Rattle.repo_model.specs.Reply.{Reply, draft, opened, staged, no_memory, store_fault}
use Rattle.repo_model.specs.Turn.{Turn, commit_of, draws_draft, says, with_open}
use Rattle.repo_parts.specs.Hosted.{rows_in}

-- each staged file's blob is in use
abbrev pub AreStagedInUse : List ℕ → List Session → Type 0
AreStagedInUse kept sessions =
    AllByRecursion (λ (s : Session). AllByRecursion (λ (file : Staged). IsTrue (is_among file.blob.number kept)) s.staged) sessions

-- a draft was asked for, and that was the reply
abbrev pub yard_drawn : Reply → Yard → Yard
yard_drawn (draft n) yard = yard_after draws yard
yard_drawn reply yard = yard

-- the reply is the one that is due, or out of memory, and the number was drawn with it
abbrev pub Draws : Reply → Yard → Yard → Type 0
Draws reply old new = ((reply ≡ (draws_draft old.next_draft).reply) ⊎ (reply ≡ no_memory)) × (new ≡ yard_drawn reply old)

-- a file may be put at a place and a draft is drawn, or that is the reply
abbrev pub drawn_unless : Option Reply → ℕ → Turn
drawn_unless None next = draws_draft next
drawn_unless (Some reply) next = says reply

-- a session was asked for, and that was the reply
abbrev pub yard_opened : Reply → Yard → Yard
yard_opened (opened n) yard = record yard { next_session = n + 1 }
yard_opened reply yard = yard

-- a blob was to be staged under a draft, and that was the reply: the draft is a staged file's blob, or still a draft, or garbage
abbrev pub yard_staged : ℕ → Reply → Yard → Yard
yard_staged n staged yard = without_draft n yard
yard_staged n no_memory yard = yard
yard_staged n store_fault yard = yard
yard_staged n reply yard = yard_after (drops n) yard

abbrev pub kept_staged : ℕ → Reply → List ℕ → List ℕ
kept_staged n staged kept = with_number n kept
kept_staged n reply kept = kept

-- the repositories after some effects
abbrev pub hosted_after_all : List Effect → List Hosted → List Hosted
hosted_after_all [] hosted = hosted
hosted_after_all (e ∷ es) hosted = hosted_after_all es (hosted_after e hosted)

-- the turn of a session that is committed at a moment, among these sessions and repositories
abbrev pub commit_in : ℕ → ℕ → List Session → List Hosted → Turn
commit_in n now sessions hosted =
    with_open (find (is_session n) sessions) (λ (known : Session). commit_of known now (rows_in known.repo hosted) known.ended)
