-- Sessions that have ended: who asks for it, and how the result is answered again.
use Rattle.std.specs.Prelude.{◌≡◌, ◌⊎◌, ℕ, Bool, false, ◌==◌}
use Rattle.repo_model.specs.declared.session.SessionResult.{SessionResult}
use Rattle.repo_model.specs.Command.{Command, commit, abort}
use Rattle.repo_model.specs.Reply.{Reply, ended, no_memory}

-- the commands that end the session of a number
abbrev pub ends_session : ℕ → Command → Bool
ends_session n (commit m) = m == n
ends_session n (abort m) = m == n
ends_session n command = false

-- the result is answered, or memory runs out
abbrev pub IsResultOrMemory : SessionResult → Reply → Type 0
IsResultOrMemory result reply = (reply ≡ ended result) ⊎ (reply ≡ no_memory)
