-- The proxies of the repository: their rules, the blobs of their files, and what a landing does to them and to the numbers.
use Rattle.std.specs.Prelude.{◌≡◌, ◌≢◌, ◌⊎◌, ℕ, if◌then◌else◌, IsTrue, List, [], ◌∷◌, map, Option, Some, None}
use Rattle.std.specs.List.{AllByRecursion}
use Rattle.outside.specs.declared.stores.Held.{Ghosts}
use Rattle.fetch_plan.specs.declared.Plan.{Plan}
use Rattle.fetch_plan.specs.declared.Outcome.{Outcome}
use Rattle.repo_model.specs.Data.{Row, Proxy}
use Rattle.repo_model.specs.Effect.{Effect, drops, proxies_after, recorded, with_number, without_draft, yard_after}
use Rattle.repo_model.specs.Settings.{ProxyRule}
use Rattle.repo_model.specs.Shown.{shown_got, outcome_map}
use Rattle.repo_model.specs.State.{Yard, is_among}
use Rattle.repo_model.specs.Turn.{lands_by}
use Rattle.repo_model.specs.declared.fetched.Got.{Got}
use Rattle.repo_laws.specs.Files.{files_in}
use Rattle.row_tables.specs.Leaving.{Leaves, Shown, end_by}
use Rattle.proxy_rules.specs.Landings.{answer_of, has_failed, shown_landed}
use Rattle.proxy_rules.specs.declared.landed.Landed.{Landed}
use Rattle.proxy_rules.specs.declared.landed.Landed.TheVariants.{Kept, NotKept, StoreFault, NoMemory}

-- what the proxies are told
abbrev pub proxy_rules_of : List Proxy → List ProxyRule
proxy_rules_of proxies = map (λ (p : Proxy). p.rule) proxies

-- each file's blob is in use
abbrev pub AreCachedInUse : List ℕ → List Proxy → Type 0
AreCachedInUse kept proxies = AllByRecursion (λ (p : Proxy). AllByRecursion (λ (row : Row). IsTrue (is_among row.blob.number kept)) p.files) proxies

-- what lands among these proxies does so much
abbrev pub landing_in : {X : Type 0} {G : Ghosts X} → List Proxy → ℕ → Plan → Outcome (Got X G) → List Effect
landing_in proxies now plan outcome = lands_by (files_in plan.proxy proxies) now plan (outcome_map shown_got outcome)

-- the proxies after some effects
abbrev pub proxies_after_all : List Effect → List Proxy → List Proxy
proxies_after_all [] proxies = proxies
proxies_after_all (e ∷ effects) proxies = proxies_after_all effects (proxies_after e proxies)

-- The effects are recorded and done, and answered as theirs; or, where the records failed or memory ran out, none of them is.
pub record LandsIn (effects : List Effect) (old new : List Proxy) (was now : Shown) (answer : Landed) : Type 0 where
  pub answered : (answer ≡ answer_of effects) ⊎ IsTrue (has_failed answer)
  pub asked : answer ≡ StoreFault → recorded effects ≢ []
  pub proxies : new ≡ (if has_failed answer then old else proxies_after_all effects old)
  pub records : Leaves (recorded effects) (end_by (shown_landed answer)) was now

-- a landing is over: what becomes of its draft, where it has one
abbrev pub yard_landed : Option ℕ → Landed → Yard → Yard
yard_landed None answer yard = yard
yard_landed (Some n) Kept yard = without_draft n yard
yard_landed (Some n) NotKept yard = yard_after (drops n) yard
yard_landed (Some n) StoreFault yard = yard
yard_landed (Some n) NoMemory yard = yard

-- which numbers are in use then
abbrev pub kept_landed : Option ℕ → Landed → List ℕ → List ℕ
kept_landed (Some n) Kept kept = with_number n kept
kept_landed draft answer kept = kept
