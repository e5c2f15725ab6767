-- How many sessions are open, and how many files each of them stages.
use Rattle.std.specs.Prelude.{◌≡◌, ◌≤◌, ℕ, Bool, true, false, List, length, find, count_by, Some, None, IsTrue}
use Rattle.std.specs.List.{AllByRecursion}
use Rattle.repo_model.specs.Data.{Staged, Session, session}
use Rattle.repo_model.specs.State.{State, open_of, is_open, is_staged, is_among, most_sessions, most_staged}
use Rattle.repo_model.specs.Command.{Command, may_put, open_session, stage}
use Rattle.repo_model.specs.Reply.{Reply, sessions_full, session_full}
use Rattle.repo_laws.specs.Replies.{takes_at}

-- at most 64 sessions are open, and each has at most 1,000 staged files
pub record KeepsLimits (s : State) : Type 0 where
  pub sessions : count_by is_open s.sessions ≤ most_sessions
  pub staged : AllByRecursion (λ (one : Session). length one.staged ≤ most_staged) s.sessions

-- the replies that a limit is reached
abbrev pub is_full : Reply → Bool
is_full sessions_full = true
is_full session_full = true
is_full reply = false

-- just 1,000 files are staged, none of them at the path
abbrev pub HasNoRoom : List ℕ → List Staged → Type 0
HasNoRoom path files = (length files ≡ most_staged) × (find (is_staged path) files ≡ None)

-- why a limit is said to be reached, by the command; without a cause the command can't get the reply
abbrev pub IsAtLimit : State → Command → Reply → Type 0
IsAtLimit s (open_session repo) sessions_full = count_by is_open s.sessions ≡ most_sessions
IsAtLimit s (may_put (session n) path) session_full =
    (one : Session) × (open_of n s ≡ Some one) × IsTrue (takes_at one.repo path s) × HasNoRoom path one.staged
IsAtLimit s (stage at path n blob) session_full =
    (one : Session) × IsTrue (is_among n s.yard.drafts) × (open_of at s ≡ Some one) × HasNoRoom path one.staged
IsAtLimit s command reply = ⊥
