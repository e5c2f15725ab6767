-- What a proxy answers of a fetch that lands, and what it is then.
use Rattle.std.specs.Prelude.{◌≡◌, ◌≢◌, ◌⊎◌, ℕ, Bool, true, false, if◌then◌else◌, IsTrue, List, [], ◌∷◌}
use Rattle.std.specs.List.{list_any}
use Rattle.outside.specs.declared.stores.Held.{Ghosts}
use Rattle.fetch_plan.specs.declared.Plan.{Plan}
use Rattle.fetch_plan.specs.declared.Outcome.{Outcome}
use Rattle.repo_model.specs.Data.{Proxy}
use Rattle.repo_model.specs.declared.fetched.Got.{Got}
use Rattle.repo_model.specs.Effect.{Effect, caches, proxy_after, recorded}
use Rattle.repo_model.specs.Reply.{Reply, landed, no_memory, store_fault, is_free}
use Rattle.repo_model.specs.Shown.{shown_got, outcome_map}
use Rattle.repo_model.specs.Turn.{lands_by}
use Rattle.row_tables.specs.Leaving.{Leaves, Shown, end_by}
use Rattle.row_tables.specs.declared.faults.CommitFault.{CommitFault}
use Rattle.row_tables.specs.declared.faults.CommitFault.TheVariants as commit
use Rattle.proxy_rules.specs.declared.landed.Landed.{Landed}
use Rattle.proxy_rules.specs.declared.landed.Landed.TheVariants.{Kept, NotKept, StoreFault, NoMemory}

-- what lands at a proxy does so much
abbrev pub landing : {X : Type 0} {G : Ghosts X} → Proxy → ℕ → Plan → Outcome (Got X G) → List Effect
landing p now plan outcome = lands_by p.files now plan (outcome_map shown_got outcome)

abbrev pub is_caching : Effect → Bool
is_caching (caches id path blob moment) = true
is_caching effect = false

-- a file became one that is kept, or none did
abbrev pub answer_of : List Effect → Landed
answer_of effects = if list_any is_caching effects then Kept else NotKept

abbrev pub failed_by : CommitFault → Landed
failed_by commit.Failed = StoreFault
failed_by commit.NoMemory = NoMemory

abbrev pub shown_landed : Landed → Reply
shown_landed Kept = landed
shown_landed NotKept = landed
shown_landed StoreFault = store_fault
shown_landed NoMemory = no_memory

-- nothing landed
abbrev pub has_failed : Landed → Bool
has_failed answer = is_free (shown_landed answer)

-- a proxy after some effects there
abbrev pub proxy_after_all : List Effect → Proxy → Proxy
proxy_after_all [] p = p
proxy_after_all (e ∷ effects) p = proxy_after_all effects (proxy_after e p)

-- The effects are done, and answered as theirs, once they are recorded; or, where the records failed or memory ran out, none of
-- them is.
pub record Lands (effects : List Effect) (old new : Proxy) (was now : Shown) (answer : Landed) : Type 0 where
  pub answered : (answer ≡ answer_of effects) ⊎ IsTrue (has_failed answer)
  pub asked : answer ≡ StoreFault → recorded effects ≢ []
  pub proxy : new ≡ (if has_failed answer then old else proxy_after_all effects old)
  pub records : Leaves (recorded effects) (end_by (shown_landed answer)) was now
