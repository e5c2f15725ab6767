-- What the entries of a pass over repositories do: they change no draft and no lease, keep what is told, and take no longer than the repositories are many.
use Rattle.std.proofs.Common.{◌≡◌, ℕ, zero, suc, ◌+◌, ◌≤◌, true, false, if◌then◌else◌, List, [], ◌∷◌, ◌++◌, length, map, filter, take, arith, Option, Some, None, Result, Ok, Err, refl, sym, subst, ap, ◌∙◌, length-append}
use Rattle.std.specs.Prelude.{IsSome}
use Rattle.std.specs.List.{AllByRecursion, flat_map}
use Rattle.std.proofs.lemmas.List.{length-map}
use Rattle.repo_model.specs.Command.{Command, unlist, collect}
use Rattle.repo_model.specs.Data.{Hosted, Row}
use Rattle.repo_model.specs.Effect.{Effect, fades, expires, forgets, with_effect, with_effects}
use Rattle.repo_model.specs.History.{Entry, after, effects_of, end as end_of, ticked}
use Rattle.repo_model.specs.Purge.{due_rows, expire_all, expired_of, is_over, most_rows}
use Rattle.repo_model.specs.Reply.{is_free}
use Rattle.repo_model.specs.Settings.{Settings}
use Rattle.repo_model.specs.State.{State, Yard, hosted_of}
use Rattle.repo_model.specs.Turn.{turn, unlent, unlist_of}
use Rattle.repo_course.specs.Cleaning.{Passes, not_unlisted, not_collected, removing, Store, Unlists, commands_in}
use Rattle.repo_course.specs.Course.{IoAction, Outcome, Pass, clean_all}
use Rattle.repo_course.specs.Serving.{Does, Outside}
use Rattle.repo_course.specs.declared.outcomes.CleanFault.{CleanFault}
use Rattle.course_laws.specs.AsPlayed.{RowsTold}
use Rattle.course_laws.proofs.Alls.{all-flat, all-joined, all-mapped}
use Rattle.course_laws.proofs.Told.{EffectTold, clock-stays, effects-told}
use Rattle.course_laws.proofs.Yards.{Holding}

-- lists

module _ {X Y : Type 0} (P : Y → Type 0) where
  pub all-under : (f : X → Y) (xs : List X) → AllByRecursion P (map f xs) → AllByRecursion (λ x. P (f x)) xs
  all-under f [] all = tt
  all-under f (x ∷ xs) all = (all.0, all-under f xs all.1)

  pub all-over : (f : X → Y) (xs : List X) → AllByRecursion (λ x. P (f x)) xs → AllByRecursion P (map f xs)
  all-over f [] all = tt
  all-over f (x ∷ xs) all = (all.0, all-over f xs all.1)

module _ {X : Type 0} (P : X → Type 0) where
  pub all-last : (xs : List X) (x : X) → AllByRecursion P (xs ++ x ∷ []) → P x
  all-last [] x all = all.0
  all-last (y ∷ ys) x all = all-last ys x all.1

  all-taken : (n : ℕ) (xs : List X) → AllByRecursion P xs → AllByRecursion P (take n xs)
  all-taken zero xs all = tt
  all-taken (suc n) [] all = tt
  all-taken (suc n) (x ∷ xs) all = (all.0, all-taken n xs all.1)

  all-also : (Q : X → Type 0) → ((x : X) → P x → Q x) → (xs : List X) → AllByRecursion P xs → AllByRecursion Q xs
  all-also Q also [] all = tt
  all-also Q also (x ∷ xs) all = (also x all.0, all-also Q also xs all.1)

-- the commands of a pass

abbrev pub IsPassCommand : Command → Type 0
IsPassCommand (unlist repo) = Unit {0}
IsPassCommand collect = Unit {0}
IsPassCommand _ = ⊥

abbrev pub ArePass : List Entry → Type 0
ArePass entries = AllByRecursion (λ (e : Entry). IsPassCommand e.command) entries

asked-unlist : (entries : List Entry) (repos : List (List ℕ)) → commands_in entries ≡ map unlist repos → ArePass entries
asked-unlist entries repos is =
    all-under IsPassCommand (λ (e : Entry). e.command) entries
    (subst (λ (cs : List Command). AllByRecursion IsPassCommand cs) (sym is) (all-mapped IsPassCommand unlist (λ repo. tt) repos))

unlists-pass : (repos : List (List ℕ)) (entries : List Entry) (result : Result ℕ CleanFault) → Unlists repos entries result → ArePass entries
unlists-pass repos entries (Ok count) u = asked-unlist entries repos u.1
unlists-pass repos entries (Err fault) u = asked-unlist entries u.0 u.5

collect-pass : (last : Entry) → last.command ≡ collect → IsPassCommand last.command
collect-pass last is = subst IsPassCommand (sym is) tt

pub passes-ask : (repos : List (List ℕ)) (entries : List Entry) (old new : Store) (result : Pass) → Passes repos entries old new result → ArePass entries
passes-ask repos entries old new result (not_unlisted fault u still is) = unlists-pass repos entries (Err fault) u
passes-ask repos entries old new result (not_collected first last count fault parts u c still is) =
    subst ArePass (sym parts) (all-joined (λ (e : Entry). IsPassCommand e.command) first (last ∷ []) (unlists-pass repos first (Ok count) u) (collect-pass last c.0, tt))
passes-ask repos entries old new result (removing first last count blobs removed parts u c r is) =
    subst ArePass (sym parts) (all-joined (λ (e : Entry). IsPassCommand e.command) first (last ∷ []) (unlists-pass repos first (Ok count) u) (collect-pass last c.0, tt))

-- one for each repository, and one more
asked-few : (repos : List (List ℕ)) (entries : List Entry) (result : Result ℕ CleanFault) → Unlists repos entries result → length entries ≤ length repos
asked-few repos entries (Ok count) u =
    let asked = sym (length-map entries (λ (e : Entry). e.command)) ∙ ap length u.1 ∙ length-map repos unlist in omega (arith, asked)
asked-few repos entries (Err fault) u =
    let asked = sym (length-map entries (λ (e : Entry). e.command)) ∙ ap length u.5 ∙ length-map u.0 unlist in
    let all = ap length u.4 ∙ length-append u.0 u.1 in
    omega (arith, asked, all)

one-more-few : (repos : List (List ℕ)) (entries first : List Entry) (last : Entry) → entries ≡ first ++ last ∷ [] → length first ≤ length repos
    → length entries ≤ length repos + 1
one-more-few repos entries first last parts few = let all = ap length parts ∙ length-append first (last ∷ []) in omega (arith, all, few)

pub passes-few : (repos : List (List ℕ)) (entries : List Entry) (old new : Store) (result : Pass) → Passes repos entries old new result
    → length entries ≤ length repos + 1
passes-few repos entries old new result (not_unlisted fault u still is) =
    let few = asked-few repos entries (Err fault) u in omega (arith, few)
passes-few repos entries old new result (not_collected first last count fault parts u c still is) =
    one-more-few repos entries first last parts (asked-few repos first (Ok count) u)
passes-few repos entries old new result (removing first last count blobs removed parts u c r is) =
    one-more-few repos entries first last parts (asked-few repos first (Ok count) u)

-- their effects

abbrev IsPurge : Effect → Type 0
IsPurge (fades repo path moment) = Unit {0}
IsPurge (expires repo path n) = Unit {0}
IsPurge (forgets ns) = Unit {0}
IsPurge _ = ⊥

abbrev ArePurge : List Effect → Type 0
ArePurge es = AllByRecursion IsPurge es

expired-purges : (settings : Settings) (now : ℕ) (h : Hosted) → ArePurge (expired_of settings.grace now h)
expired-purges settings now h =
    all-mapped IsPurge (λ (row : Row). expires h.rule.id row.path row.blob.number) (λ row. tt) (filter (λ (row : Row). is_over settings.grace now row.phase) h.rows)

turn-purges : (settings : Settings) (s : State) (now : ℕ) (c : Command) → IsPassCommand c → ArePurge (turn settings s now c).effects
turn-purges settings s now (unlist repo) is =
    elim (hosted_of repo s) as (λ o. ArePurge (unlist_of now o).effects) [
      | None ↦ tt
      | Some h ↦ all-mapped IsPurge (λ (row : Row). fades h.rule.id row.path now) (λ row. tt) (due_rows h.rule now h.rows)
    ]
turn-purges settings s now collect is =
    let expiring = expire_all settings.grace now s.hosted in
    all-joined IsPurge expiring (forgets (unlent (with_effects s expiring).yard) ∷ [])
    (all-taken IsPurge most_rows (flat_map (expired_of settings.grace now) s.hosted) (all-flat IsPurge (expired_of settings.grace now) (expired-purges settings now) s.hosted))
    (tt, tt)
turn-purges settings s now _ is = absurd is

entry-purges : (settings : Settings) (s : State) (e : Entry) → IsPassCommand e.command → ArePurge (effects_of settings s e)
entry-purges settings s e is =
    elim (is_free e.reply) as (λ b. ArePurge (if b then [] else (turn settings s e.moment e.command).effects))
    [ true ↦ tt | false ↦ turn-purges settings s e.moment e.command is ]

-- what is held stands as it did

module _ (before : Yard) (draft lease : Option ℕ) where
  abbrev Held : State → Type 0
  Held s = Holding before draft lease s.yard

  again : (s t : State) → Held s → t.yard.drafts ≡ s.yard.drafts → t.yard.leases ≡ s.yard.leases → t.yard.next_draft ≡ s.yard.next_draft
      → t.yard.next_lease ≡ s.yard.next_lease → Held t
  again s t h drafts leases next_draft next_lease =
      subst (λ (y : Yard). Holding before draft lease y)
      (λ i. record { drafts = sym drafts i; leases = sym leases i; condemned = t.yard.condemned; next_draft = sym next_draft i; next_lease = sym next_lease i; next_session = t.yard.next_session })
      (record { drafts = h.drafts; leases = h.leases; next_draft = h.next_draft; next_lease = h.next_lease })

  purges-hold : (es : List Effect) (s : State) → ArePurge es → Held s → Held (with_effects s es)
  purges-hold [] s all h = h
  purges-hold (fades repo path moment ∷ es) s all h =
      let e : Effect = fades repo path moment in purges-hold es (with_effect s e) all.1 (again s (with_effect s e) h refl refl refl refl)
  purges-hold (expires repo path n ∷ es) s all h =
      let e : Effect = expires repo path n in purges-hold es (with_effect s e) all.1 (again s (with_effect s e) h refl refl refl refl)
  purges-hold (forgets ns ∷ es) s all h =
      let e : Effect = forgets ns in purges-hold es (with_effect s e) all.1 (again s (with_effect s e) h refl refl refl refl)
  purges-hold (_ ∷ es) s all h = absurd all.0

  entry-holds : (settings : Settings) (s : State) (e : Entry) → IsPassCommand e.command → Held s → Held (after settings s e)
  entry-holds settings s e is h =
      purges-hold (effects_of settings s e) (ticked s e.moment e.faults) (entry-purges settings s e is) (again s (ticked s e.moment e.faults) h refl refl refl refl)

  pub entries-hold : (settings : Settings) (entries : List Entry) (s : State) → ArePass entries → Held s → Held (end_of settings s entries)
  entries-hold settings [] s all h = h
  entries-hold settings (e ∷ entries) s all h = entries-hold settings entries (after settings s e) all.1 (entry-holds settings s e all.0 h)

-- what is told stays told

pub entries-told : (settings : Settings) (entries : List Entry) (s : State) → ArePass entries → RowsTold s → RowsTold (end_of settings s entries)
entries-told settings [] s all told = told
entries-told settings (e ∷ entries) s all told =
    entries-told settings entries (after settings s e) all.1
    (effects-told (effects_of settings s e) (ticked s e.moment e.faults)
    (all-also IsPurge EffectTold purge-told (effects_of settings s e) (entry-purges settings s e all.0)) told)
  where
    purge-told : (e : Effect) → IsPurge e → EffectTold e
    purge-told (fades repo path moment) is = tt
    purge-told (expires repo path n) is = tt
    purge-told (forgets ns) is = tt
    purge-told _ is = absurd is

pub entries-clock : (settings : Settings) (entries : List Entry) (s : State) → IsSome s.clock → IsSome (end_of settings s entries).clock
entries-clock settings [] s told = told
entries-clock settings (e ∷ entries) s told = entries-clock settings entries (after settings s e) (clock-stays settings s e told)

-- only a pass asks commands
pub action-asks : (tells : Type 0) (io_action : IoAction) (outcome : Outcome io_action) (mine : List Entry) (old new : Outside) → Does tells io_action outcome mine old new → ArePass mine
action-asks tells (clean_all repos) pass mine old new did = passes-ask repos mine _ did.0 pass did.1
action-asks tells _ outcome mine old new did = subst ArePass (sym did.0) tt
