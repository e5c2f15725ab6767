-- The sessions that are known, what each call is due, and what effects make of them.
use Rattle.std.specs.Prelude.{◌≡◌, ℕ, ◌+◌, ◌<◌, ◌≤◌, Bool, ◌&&◌, nat_lt, nat_le, if◌then◌else◌, List, [], ◌∷◌, find, count_by, length, IsTrue}
use Rattle.std.specs.List.{list_all}
use Rattle.repo_model.specs.Data.{Blob, Row, Session}
use Rattle.repo_model.specs.State.{is_open, is_open_at, is_session, most_sessions, most_staged, number_end}
use Rattle.repo_model.specs.Effect.{Effect, drops, discards, expires, opens, sessions_after}
use Rattle.repo_model.specs.Reply.{sessions_full, opened}
use Rattle.repo_model.specs.Restart.{greatest_session, sessions_from}
use Rattle.repo_model.specs.Tables.{Tables}
use Rattle.repo_model.specs.Turn.{Turn, says, draws_or_spent, with_open, stage_in, abort_of, commit_of}
pub use Rattle.hosted_delivery.specs.Deliveries.{is_recordable}

-- sessions in rising order of number, open or ended, and the number of the next one
pub record Known : Type 0 where
  pub sessions : List Session
  pub next : ℕ

-- the sessions after a start over tables: one that was open is gone, and its number is not drawn again
abbrev pub known_from : Tables → Known
known_from t = record { sessions = sessions_from t.sessions; next = greatest_session t + 1 }

-- the turns of a session that is opened, a file that is staged and a session that is given up
abbrev pub begin_turn : Known → List ℕ → Turn
begin_turn k repo =
    if nat_le most_sessions (count_by is_open k.sessions) then says sessions_full
    else draws_or_spent k.next (record { reply = opened k.next; effects = opens k.next repo ∷ [] })

abbrev pub stage_turn : Known → ℕ → List ℕ → Blob → Turn
stage_turn k n path blob = stage_in path blob.number blob (find (is_open_at n) k.sessions)

abbrev pub abort_turn : Known → ℕ → Turn
abort_turn k n = with_open (find (is_session n) k.sessions) (λ found. abort_of found found.ended)

-- the turn of a session that is committed at a moment to a repository with such rows
abbrev pub commit_turn : Known → ℕ → ℕ → List Row → Turn
commit_turn k n now rows = with_open (find (is_session n) k.sessions) (λ found. commit_of found now rows found.ended)

-- the sessions after some effects, and the next number
abbrev pub sessions_after_all : List Effect → List Session → List Session
sessions_after_all [] sessions = sessions
sessions_after_all (e ∷ effects) sessions = sessions_after_all effects (sessions_after e sessions)

abbrev pub next_after : Effect → ℕ → ℕ
next_after (opens n repo) next = n + 1
next_after effect next = next

abbrev pub next_after_all : List Effect → ℕ → ℕ
next_after_all [] next = next
next_after_all (e ∷ effects) next = next_after_all effects (next_after e next)

abbrev pub known_after : List Effect → Known → Known
known_after effects k = record { sessions = sessions_after_all effects k.sessions; next = next_after_all effects k.next }

-- the blobs that become garbage by an effect
abbrev pub garbage_by : Effect → List ℕ
garbage_by (drops n) = n ∷ []
garbage_by (discards n path draft) = draft ∷ []
garbage_by (expires repo path blob) = blob ∷ []
garbage_by effect = []

-- a session's number was drawn, from 1 on
abbrev pub is_drawn : ℕ → Session → Bool
is_drawn next s = nat_lt 0 s.number && nat_lt s.number next

-- the files of a session can be recorded as rows, and are at most 1,000
abbrev pub has_recordable : Session → Bool
has_recordable s = list_all is_recordable s.staged && nat_le (length s.staged) most_staged

-- so many sessions are open, each was drawn and its files can be recorded, and the next number is at most 2 ^ 63
pub record IsSound (count next : ℕ) (sessions : List Session) : Type 0 where
  pub counted : count ≡ count_by is_open sessions
  pub drawn : IsTrue (list_all (is_drawn next) sessions)
  pub formed : IsTrue (list_all has_recordable sessions)
  pub first : 0 < next
  pub last : next ≤ number_end
