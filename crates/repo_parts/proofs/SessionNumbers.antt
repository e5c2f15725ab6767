-- The next session number stays the same where no session is opened.
use Rattle.std.proofs.Common.{◌≡◌, ℕ, List, [], ◌∷◌, Option, Some, None, refl}
use Rattle.repo_model.specs.State.{Yard}
use Rattle.repo_model.specs.Effect.{condemning}
use Rattle.repo_model.specs.Reply.{Reply, file, fetches, created, no_memory, store_fault}
use Rattle.proxy_rules.specs.declared.landed.Landed.{Landed}
use Rattle.proxy_rules.specs.declared.landed.Landed.TheVariants as landed
use Rattle.repo_parts.specs.Numbers.{yard_looked, yard_planned, yard_put}
use Rattle.repo_parts.specs.Proxies.{yard_landed}
use Rattle.repo_parts.specs.Purge.{condemned_by}

session-planned : (draft : Option ℕ) (yard : Yard) → (yard_planned draft yard).next_session ≡ yard.next_session
session-planned None yard = refl
session-planned (Some n) yard = refl

pub session-looked : (reply : Reply) (yard : Yard) → (yard_looked reply yard).next_session ≡ yard.next_session
session-looked (file lease blob) yard = refl
session-looked (fetches plan) yard = session-planned plan.draft yard
session-looked reply yard = refl

pub session-put : (draft : ℕ) (reply : Reply) (yard : Yard) → (yard_put draft reply yard).next_session ≡ yard.next_session
session-put draft created yard = refl
session-put draft no_memory yard = refl
session-put draft store_fault yard = refl
session-put draft reply yard = refl

pub session-condemned : (blobs : List ℕ) (yard : Yard) → (condemned_by blobs yard).next_session ≡ yard.next_session
session-condemned [] yard = refl
session-condemned (n ∷ ns) yard = session-condemned ns (condemning n yard)

pub session-landed : (draft : Option ℕ) (answer : Landed) (yard : Yard) → (yard_landed draft answer yard).next_session ≡ yard.next_session
session-landed None answer yard = refl
session-landed (Some n) landed.Kept yard = refl
session-landed (Some n) landed.NotKept yard = refl
session-landed (Some n) landed.StoreFault yard = refl
session-landed (Some n) landed.NoMemory yard = refl
