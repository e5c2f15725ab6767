-- The statuses that a run may end with, and the cause of each.
use Rattle.std.specs.Prelude.{◌≡◌, ◌⊎◌, ℕ}
use Rattle.outside.specs.Faults.{Rose}
use Rattle.repo_run.specs.declared.actions.Action.{Action}
use Rattle.repo_run.specs.declared.actions.Action.TheVariants.{Replay, Check, Clean, Serve, Demo, Nothing}

-- done, settings that are refused, a store that failed or does not read, a damaged file, input, output or out of memory; and
-- never 2
abbrev pub IsStatusOfOpening : ℕ → Type 0
IsStatusOfOpening status = (status ≡ 0) ⊎ ((status ≡ 3) ⊎ ((status ≡ 4) ⊎ ((status ≡ 5) ⊎ ((status ≡ 6) ⊎ ((status ≡ 7) ⊎ (status ≡ 8))))))

-- a file that was named in the place of 5, which tells that a store with damaged files was not opened
abbrev pub IsStatusOfCheck : ℕ → Type 0
IsStatusOfCheck status = (status ≡ 0) ⊎ ((status ≡ 3) ⊎ ((status ≡ 4) ⊎ ((status ≡ 6) ⊎ ((status ≡ 7) ⊎ ((status ≡ 8) ⊎ (status ≡ 9))))))

-- settings are not read, and nothing is that fails but the store, the output and memory
abbrev pub IsStatusOfDemo : ℕ → Type 0
IsStatusOfDemo status = (status ≡ 0) ⊎ ((status ≡ 4) ⊎ ((status ≡ 5) ⊎ ((status ≡ 7) ⊎ (status ≡ 8))))

-- by what the words ask for; running out of memory may stand in the place of a refusal
abbrev pub MatchAction : Action → ℕ → Type 0
MatchAction Replay status = IsStatusOfOpening status
MatchAction Check status = IsStatusOfCheck status
MatchAction Clean status = IsStatusOfOpening status
MatchAction (Demo from calls) status = IsStatusOfDemo status
MatchAction Serve status = (status ≡ 2) ⊎ (status ≡ 8)
MatchAction Nothing status = (status ≡ 2) ⊎ (status ≡ 8)

-- the counts of faults that decide how a connection's replay ends, in the order in which they do: those of its source and
-- of its sink, and that of the output
pub record Counts : Type 0 where
  pub source : ℕ
  pub sink : ℕ
  pub out : ℕ

-- The status by its cause: one of the counts rose and none that decides before it, memory ran out, or no count rose.
pub data HasStatus (old new : Counts) (status : ℕ) : Type 0 where
  done : new ≡ old → status ≡ 0 → HasStatus old new status
  source_failed : Rose old.source new.source → new.sink ≡ old.sink → status ≡ 6 → HasStatus old new status
  sink_failed : new.source ≡ old.source → Rose old.sink new.sink → new.out ≡ old.out → status ≡ 7 → HasStatus old new status
  out_failed : new.source ≡ old.source → new.sink ≡ old.sink → Rose old.out new.out → status ≡ 7 → HasStatus old new status
  memory_wanted : new.source ≡ old.source → new.sink ≡ old.sink → status ≡ 8 → HasStatus old new status
