-- What desks hand over in the one history of all tells its bytes, and of each number once.
use Rattle.std.proofs.Common.{◌≡◌, ◌≤◌, ℕ, ◌==◌, Bool, true, false, cond, List, [], ◌∷◌, ◌++◌, map, refl, sym, subst, ap, ◌∙◌, inl, inr, eqb-true}
use Rattle.std.specs.List.{AllByRecursion}
use Rattle.repo_model.specs.History as machine
use Rattle.repo_model.specs.History.{Entry}
use Rattle.repo_model.specs.Settings.{Settings}
use Rattle.repo_model.specs.State.{State}
use Rattle.repo_laws.specs.Laws.{AnyByRecursion}
use Rattle.repo_laws.specs.Replies.{GivesDraft}
use Rattle.repo_course.specs.Cleaning.{Store}
use Rattle.repo_course.specs.Serving.{Outside, ServesStream}
use Rattle.repo_course.specs.declared.outcomes.End.{End}
use Rattle.course_laws.proofs.Alls.{all-joined}
use Rattle.course_laws.proofs.Passes.{ArePass, passes-ask}
use Rattle.run_desks.specs.Seen.{RunResources, DeskResources, Looks}
use Rattle.crash_laws.specs.Handed.{AllHandTold, AnyHands, HandOnce, HandsNumber, HandsTold}
use Rattle.turn_lock.specs.declared.view.Entry.{Entry as Call}
use Rattle.turn_lock.specs.declared.turns.Turns.{Turns}
use Rattle.turn_lock.specs.declared.seat.SeatToken.{SeatToken as Seat}
use Rattle.turn_lock.specs.History.{entries_by}
use Rattle.turn_lock.specs.Seats.{joined, mine, opening}
use Rattle.turn_seats.specs.Seated.{entry_of}
use Rattle.seat_server.specs.Passages.{Passage, PassesThrough, entries_in}
use Rattle.desk_work.specs.Visits.{Attends, Visit, entries_of}
use Rattle.seat_server.specs.Rules.{Rules}
use Rattle.desk_work.specs.Working.{Works}
use Rattle.desk_laws.proofs.Callers.{OwnOf, any-who, all-whole, each-caller, first-by, kept-by}
use Rattle.desk_laws.proofs.Drawn.{AnyGives, GiveOnce, given-above, given-once, once-after, once-front}
use Rattle.desk_laws.proofs.Fitting.{FitsOne, all-cut}
use Rattle.desk_laws.proofs.Handing.{Hand, both-hand, none-hand, pass-hand, serves-hand}
use Rattle.desk_laws.proofs.Servers.{all-by, all-fit, any-by, is-itself}
use Rattle.desk_laws.proofs.Telling.{of_pass, serves-told}

-- ---- the entries of one caller among all

module _ {T C R : Type 0} (as_entry : Call C R T → Entry) where
  -- a draft is given to one caller
  one-giver : (log : List (Call C R T)) (n j k : ℕ) → GiveOnce (map as_entry log) → AnyGives n (OwnOf as_entry j log) → AnyGives n (OwnOf as_entry k log) → j ≡ k
  one-giver [] n j k once one other = absurd one
  one-giver (c ∷ log) n j k once one other = pick (λ a b. one-giver log n j k once.1 a b) (c.by == j) refl (c.by == k) refl one other
    where
      own : ℕ → Bool → List Entry
      own i b = map as_entry (cond b (c ∷ entries_by i log) (entries_by i log))

      later : (i : ℕ) → AnyGives n (OwnOf as_entry i log) → AnyGives n (map as_entry log)
      later i any = any-by as_entry (λ (e : Entry). GivesDraft n e.reply) i log any

      pick : (AnyGives n (OwnOf as_entry j log) → AnyGives n (OwnOf as_entry k log) → j ≡ k) → (a : Bool) → (c.by == j) ≡ a → (b : Bool) → (c.by == k) ≡ b → AnyGives n (own j a) → AnyGives n (own k b) → j ≡ k
      pick behind true first true second one other = sym (eqb-true c.by j first) ∙ eqb-true c.by k second
      pick behind true first false second (inl here) other = absurd (once.0 n here (later k other))
      pick behind true first false second (inr one) other = behind one other
      pick behind false first true second one (inl here) = absurd (once.0 n here (later j one))
      pick behind false first true second one (inr other) = behind one other
      pick behind false first false second one other = behind one other

  -- a caller's entries are given each draft once
  own-once : (log : List (Call C R T)) (k : ℕ) → GiveOnce (map as_entry log) → GiveOnce (OwnOf as_entry k log)
  own-once [] k once = tt
  own-once (c ∷ log) k once =
      elim (c.by == k) as (λ b. GiveOnce (map as_entry (cond b (c ∷ entries_by k log) (entries_by k log)))) [
        | true ↦ (λ n gives any. once.0 n gives (any-by as_entry (λ (e : Entry). GivesDraft n e.reply) k log any), own-once log k once.1)
        | false ↦ own-once log k once.1
      ]

  -- where each caller hands over each number once, and no two of them the same, so do all
  once-whole : (log : List (Call C R T)) → ((k : ℕ) → HandOnce (OwnOf as_entry k log))
      → ((n j k : ℕ) → AnyHands n (OwnOf as_entry j log) → AnyHands n (OwnOf as_entry k log) → j ≡ k) → HandOnce (map as_entry log)
  once-whole [] each apart = tt
  once-whole (c ∷ log) each apart = (
    λ n here any.
        let Q : Entry → Type 0 = λ e. HandsNumber n e.command in
        let (k, other) = any-who as_entry Q log any in
        let same : k ≡ c.by = sym (apart n c.by k (first-by as_entry Q c log here) (kept-by as_entry Q c log k other)) in
        own.0 n here (subst (λ i. AnyHands n (OwnOf as_entry i log)) same other),
    once-whole log (λ k. behind k (c.by == k) (each k))
        (λ n j k one other. apart n j k (kept-by as_entry (λ (e : Entry). HandsNumber n e.command) c log j one) (kept-by as_entry (λ (e : Entry). HandsNumber n e.command) c log k other)),
  )
    where
      own : HandOnce (as_entry c ∷ OwnOf as_entry c.by log)
      own = subst (λ b. HandOnce (map as_entry (cond b (c ∷ entries_by c.by log) (entries_by c.by log)))) (is-itself as_entry c.by) (each c.by)

      behind : (k : ℕ) (b : Bool) → HandOnce (map as_entry (cond b (c ∷ entries_by k log) (entries_by k log))) → HandOnce (OwnOf as_entry k log)
      behind k true once = once.1
      behind k false once = once

-- ---- desks and the cleaner

told-pass : (entries : List Entry) → ArePass entries → AllHandTold entries
told-pass [] pass = tt
told-pass (e ∷ entries) pass = (of_pass e.command pass.0, told-pass entries pass.1)

module _ {L P D : Type 0} (looks : Looks L P D) (settings : Settings) where
  visits-told : looks.tells → (before after : DeskResources) (visits : List (Visit L)) → Attends looks settings before visits after → AllHandTold (entries_of visits)
  visits-told tell before after [] attends = tt
  visits-told tell before after (v ∷ vs) attends =
      all-joined (λ (e : Entry). HandsTold e.command) v.entries (entries_of vs) (serves-told looks.tells tell settings 1000 v.entries _ _ v.ending attends.0) (visits-told tell v.left after vs attends.1)

  visits-hand : (under : Settings) (before after : DeskResources) (visits : List (Visit L)) → AllByRecursion (FitsOne under) (entries_of visits) → GiveOnce (entries_of visits)
      → Attends looks settings before visits after → Hand (entries_of visits)
  visits-hand under before after [] fits given attends = none-hand
  visits-hand under before after (v ∷ vs) fits given attends =
      let parts = all-cut (FitsOne under) v.entries (entries_of vs) fits in
      both-hand v.entries (entries_of vs) given (serves-hand under settings looks.tells 1000 v.entries _ _ v.ending parts.0 (once-front v.entries (entries_of vs) given) attends.0)
      (visits-hand under v.left after vs parts.1 (once-after v.entries (entries_of vs) given) attends.1)

passes-told : (settings : Settings) (before after : Store) (passages : List Passage) → PassesThrough settings before passages after → AllHandTold (entries_in passages)
passes-told settings before after [] through = tt
passes-told settings before after (p ∷ ps) through =
    all-joined (λ (e : Entry). HandsTold e.command) p.entries (entries_in ps) (told-pass p.entries (passes-ask _ p.entries before p.left p.result through.0))
    (passes-told settings p.left after ps through.1)

passes-pass : (settings : Settings) (before after : Store) (passages : List Passage) → PassesThrough settings before passages after → ArePass (entries_in passages)
passes-pass settings before after [] through = tt
passes-pass settings before after (p ∷ ps) through =
    all-joined _ p.entries (entries_in ps) (passes-ask _ p.entries before p.left p.result through.0) (passes-pass settings p.left after ps through.1)

module _ {L P D T C R : Type 0} (looks : Looks L P D) (settings : Settings) (rules : Rules T C R) where
  module _ (turns : Turns T C R) (first : Seat C R T) (old new : RunResources (List D)) (thing : T) (calls : ℕ) (failed : Bool)
      (works : Works looks rules settings turns first old new thing calls failed) (alone : mine first ≡ []) (apart : joined first ≡ []) where
    abbrev log : List (Call C R T)
    log = works.ended.log

    abbrev pub history : List Entry
    history = map (entry_of rules.sight) log

    pub works-told : looks.tells → AllHandTold history
    works-told tell =
        all-whole (entry_of rules.sight) (λ (e : Entry). HandsTold e.command) log
        (each-caller looks settings rules turns first old new thing calls failed works alone apart AllHandTold tt
        (λ k before after visits attends is. visits-told looks settings tell before after visits attends) (λ k before after passages through is. passes-told settings before after passages through))

    abbrev under : Settings
    under = rules.sight.settings (opening turns)

    abbrev start : State
    start = rules.sight.state (opening turns)

    each : (k : ℕ) → Hand (OwnOf (entry_of rules.sight) k log)
    each =
        each-caller looks settings rules turns first old new thing calls failed works alone apart Hand none-hand
        (λ k before after visits attends is.
        visits-hand looks settings under before after visits
        (subst (AllByRecursion (FitsOne under)) (sym is) (all-by (entry_of rules.sight) (FitsOne under) k log (all-fit under start history works.history.legal)))
        (subst GiveOnce (sym is) (own-once (entry_of rules.sight) log k (given-once under history start works.history.legal))) attends)
        (λ k before after passages through is. pass-hand (entries_in passages) (passes-pass settings before after passages through))

    pub works-once : HandOnce history
    works-once =
        once-whole (entry_of rules.sight) log (λ k. (each k).once)
        (λ n j k one other. one-giver (entry_of rules.sight) log n j k (given-once under history start works.history.legal) ((each j).own n one) ((each k).own n other))

    pub works-drawn : (n : ℕ) → AnyHands n history → start.yard.next_draft ≤ n
    works-drawn n any =
        let (k, own) = any-who (entry_of rules.sight) (λ (e : Entry). HandsNumber n e.command) log any in
        given-above under history start n works.history.legal (any-by (entry_of rules.sight) (λ (e : Entry). GivesDraft n e.reply) k log ((each k).own n own))

-- so of a stream that is served alone
module _ (settings : Settings) (tells : Type 0) (n : ℕ) (start : State) (entries : List Entry) (old new : Outside) (ending : End) (legal : machine.Legal settings start entries)
    (serves : ServesStream settings tells n entries old new ending) where
  hand : Hand entries
  hand = serves-hand settings settings tells n entries old new ending (all-fit settings start entries legal) (given-once settings entries start legal) serves

  pub stream-once : HandOnce entries
  stream-once = hand.once

  pub stream-drawn : (k : ℕ) → AnyHands k entries → start.yard.next_draft ≤ k
  stream-drawn k any = given-above settings entries start k legal (hand.own k any)
