-- What is seen of the remotes goes on by a fetch, and stands still where none is made.
use Rattle.std.proofs.Common.{◌≡◌, ℕ, ◌≤◌, List, [], inl, inr, Option, Some, None, refl, sym, subst, ap, arith, ◌⊎◌, ◌++◌, ◌∙◌, append-nil}
use Rattle.fetch_plan.specs.declared.Plan.{Plan}
use Rattle.outside_remote.specs.Exchanges.{Sees}
use Rattle.repo_course.specs.Course.{Fetch}
use Rattle.repo_course.specs.Serving.{Fetches, Outside}
use Rattle.fetch_plan.specs.declared.Outcome.{Outcome as Came}
use Rattle.fetch_plan.specs.declared.Outcome.TheVariants as came
use Rattle.outside.specs.Told.{behind}
use Rattle.outside.proofs.ToldLemmas.{behind-behind}
use Rattle.remote_fetch.specs.Exchanged.{Reaches}
use Rattle.remote_fetch.specs.Fetching.{IsFetched}
use Rattle.remote_fetch.specs.Got.{HasFetchCause}
use Rattle.remote_fetch.specs.declared.contents.Content.{Content}
use Rattle.remote_fetch.proofs.Causes.{fetch-cause}
use Rattle.remote_fetch.proofs.Fetches.{fetch-short}
use Rattle.course_laws.specs.Landed.{GoesOn}

pub after-none : {X : Type 0} (told : Option (List X)) → behind told [] ≡ told
after-none None = refl
after-none (Some items) = ap Some (append-nil items)

pub goes-on : (o : Sees) → GoesOn o o
goes-on o = record { faults = omega arith; made = ([], sym (after-none o.made)) }

pub goes-then : (a b c : Sees) → GoesOn a b → GoesOn b c → GoesOn a c
goes-then a b c first then =
    let one : a.faults ≤ b.faults = first.faults in
    let two : b.faults ≤ c.faults = then.faults in
    record {
      faults = omega (arith, one, two);
      made = (first.made.0 ++ then.made.0, then.made.1 ∙ ap (λ made. behind made then.made.0) first.made.1 ∙ behind-behind a.made first.made.0 then.made.0);
    }

-- the remotes are as they were
abbrev pub Still : Outside → Outside → Type 0
Still old new = new.remote ≡ old.remote

pub still-goes : (old new : Outside) → Still old new → GoesOn old.remote new.remote
still-goes old new is = subst (GoesOn old.remote) (sym is) (goes-on old.remote)

-- a fetch has raised the count or left it
fault-rose : (outcome : Came Content) (before after : ℕ) → HasFetchCause outcome before after → before ≤ after
fault-rose came.Fault before after rose = rose.0
fault-rose _ before after same = omega (arith, same)

pub fetched-goes : (plan : Plan) (outcome : Came Content) (old new : Sees) → IsFetched plan outcome old new → GoesOn old new
fetched-goes plan outcome old new is =
    let short = fetch-short plan outcome old new is in
    record { faults = fault-rose outcome old.faults new.faults (fetch-cause plan outcome old new is); made = (short.0, short.2) }

reached-goes : (old new : Sees) → Reaches 3 old new → GoesOn old new
reached-goes old new reaches = let same : new.faults ≡ old.faults = reaches.faults in record { faults = omega (arith, same); made = (reaches.made.0, reaches.made.2) }

pub unfetched-goes : (plan : Plan) (old new : Sees) → Reaches 3 old new ⊎ ((outcome : Came Content) × IsFetched plan outcome old new) → GoesOn old new
unfetched-goes plan old new (inl reaches) = reached-goes old new reaches
unfetched-goes plan old new (inr made) = fetched-goes plan made.0 old new made.1

pub fetches-go : (plan : Plan) (outcome : Fetch) (old new : Outside) → Fetches plan outcome old new → GoesOn old.remote new.remote
fetches-go plan (Some outcome) old new t = subst (GoesOn old.remote) (sym (ap (λ (o : Outside). o.remote) t.2)) (fetched-goes plan outcome old.remote t.0 t.1)
fetches-go plan None old new t = subst (GoesOn old.remote) (sym (ap (λ (o : Outside). o.remote) t.2)) (unfetched-goes plan old.remote t.0 t.1)
