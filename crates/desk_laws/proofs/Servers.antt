-- Where each caller's entries give all back, so do the entries of all, and nothing is left at their end.
use Rattle.std.proofs.Common.{◌≡◌, ◌⊎◌, inl, inr, ℕ, ◌+◌, ◌==◌, Bool, true, false, cond, List, [], ◌∷◌, ◌++◌, map, All, refl, sym, subst, ap, ◌∙◌, zero-add, arith, IsTrue}
use Rattle.std.specs.Prelude.{sum_by}
use Rattle.std.specs.List.{AllByRecursion, AllZip, list_any}
use Rattle.std.proofs.lemmas.Bool.{false≢true, eq-eqb}
use Rattle.std.proofs.lemmas.Bool.Decides.{eqb_tells}
use Rattle.std.proofs.lemmas.List.Elements.{All-head, All-tail}
use Rattle.std.proofs.lemmas.List.Sums.{sum_by-cons}
use Rattle.repo_model.specs.Command.{done}
use Rattle.repo_model.specs.Data.{Blob}
use Rattle.repo_model.specs.History as machine
use Rattle.repo_model.specs.History.{Entry}
use Rattle.repo_model.specs.Reply.{file}
use Rattle.repo_model.specs.Settings.{Settings}
use Rattle.repo_model.specs.State.{Lease, State}
use Rattle.repo_laws.specs.Laws.{AnyByRecursion}
use Rattle.repo_laws.specs.Replies.{GivesDraft, spends}
use Rattle.naming_laws.specs.Left.{IsDraftLeft, IsLeaseLeft}
use Rattle.naming_laws.proofs.Left.{draft-left, lease-left}
use Rattle.repo_course.specs.Cleaning.{Store}
use Rattle.run_desks.specs.Seen.{CleanerResources, RunResources, DeskResources, Looks}
use Rattle.turn_lock.specs.declared.view.Entry.{Entry as Call}
use Rattle.turn_lock.specs.declared.turns.Turns.{Turns}
use Rattle.turn_lock.specs.declared.seat.SeatToken.{SeatToken as Seat}
use Rattle.turn_lock.specs.History.{entries_by}
use Rattle.turn_lock.specs.Seats.{joined, mine, number, opening}
use Rattle.turn_seats.specs.Ending.{HoldsSeat, times_in}
use Rattle.turn_seats.specs.Seated.{entry_of}
use Rattle.seat_server.specs.Passages.{Passage, PassesThrough, entries_in}
use Rattle.desk_work.specs.Visits.{Attends, Visit, entries_of}
use Rattle.seat_server.specs.Rules.{Rules}
use Rattle.desk_work.specs.Working.{CleanedBeside, DeskDone, Works}
use Rattle.course_laws.proofs.Passes.{passes-ask}
use Rattle.desk_laws.specs.Back.{GiveAllBack, SpendDrafts, ReturnLeases}
use Rattle.desk_laws.proofs.Fitting.{FitsOne, all-cut, both-back, none-back, pass-back}
use Rattle.desk_laws.proofs.Streams.{serves-back}

module _ {T C R : Type 0} (as_entry : Call C R T → Entry) where
  -- what holds of all entries holds of one caller's, and what one caller has, all have
  pub all-by : (P : Entry → Type 0) (k : ℕ) (log : List (Call C R T)) → AllByRecursion P (map as_entry log) → AllByRecursion P (map as_entry (entries_by k log))
  all-by P k [] all = tt
  all-by P k (c ∷ log) all = elim (c.by == k) as (λ b. AllByRecursion P (map as_entry (cond b (c ∷ entries_by k log) (entries_by k log)))) [
    | true ↦ (all.0, all-by P k log all.1)
    | false ↦ all-by P k log all.1
  ]

  pub any-by : (P : Entry → Type 0) (k : ℕ) (log : List (Call C R T)) → AnyByRecursion P (map as_entry (entries_by k log)) → AnyByRecursion P (map as_entry log)
  any-by P k [] any = any
  any-by P k (c ∷ log) any = pick (λ later. any-by P k log later) (c.by == k) any where
    pick : (AnyByRecursion P (map as_entry (entries_by k log)) → AnyByRecursion P (map as_entry log)) → (b : Bool)
        → AnyByRecursion P (map as_entry (cond b (c ∷ entries_by k log) (entries_by k log))) → AnyByRecursion P (as_entry c ∷ map as_entry log)
    pick rest true (inl here) = inl here
    pick rest true (inr later) = inr (rest later)
    pick rest false later = inr (rest later)

  pub is-itself : (n : ℕ) → (n == n) ≡ true
  is-itself n = eq-eqb n n refl

  -- after its first entry each caller's entries do too
  tail-back : (c : Call C R T) (log : List (Call C R T)) (k : ℕ) (b : Bool) → GiveAllBack (map as_entry (cond b (c ∷ entries_by k log) (entries_by k log)))
      → GiveAllBack (map as_entry (entries_by k log))
  tail-back c log k true back = record { drafts = back.drafts.1; leases = back.leases.1 }
  tail-back c log k false back = back

  pub whole-back : (log : List (Call C R T)) → ((k : ℕ) → GiveAllBack (map as_entry (entries_by k log))) → GiveAllBack (map as_entry log)
  whole-back [] each = none-back
  whole-back (c ∷ log) each =
      let own : GiveAllBack (map as_entry (c ∷ entries_by c.by log)) =
      subst (λ b. GiveAllBack (map as_entry (cond b (c ∷ entries_by c.by log) (entries_by c.by log)))) (is-itself c.by) (each c.by) in
      let rest = whole-back log (λ k. tail-back c log k (c.by == k) (each k)) in
      record {
        drafts = (λ n is. any-by (λ (x : Entry). spends n x ≡ true) c.by log (own.drafts.0 n is), rest.drafts);
        leases = (λ n blob is. any-by (λ (x : Entry). x.command ≡ done n) c.by log (own.leases.0 n blob is), rest.leases);
      }

-- so nothing is left

none-of : (P Q : Entry → Type 0) → ((x : Entry) → P x → Q x → ⊥) → (xs : List Entry) → AllByRecursion P xs → AnyByRecursion Q xs → ⊥
none-of P Q apart [] all any = any
none-of P Q apart (x ∷ xs) all (inl here) = apart x all.0 here
none-of P Q apart (x ∷ xs) all (inr later) = none-of P Q apart xs all.1 later

draft-at : (before rest : List Entry) (e : Entry) (n : ℕ) → SpendDrafts (before ++ e ∷ rest) → GivesDraft n e.reply → AnyByRecursion (λ (x : Entry). spends n x ≡ true) rest
draft-at [] rest e n back is = back.0 n is
draft-at (b ∷ before) rest e n back is = draft-at before rest e n back.1 is

lease-at : (before rest : List Entry) (e : Entry) (n : ℕ) (blob : Blob) → ReturnLeases (before ++ e ∷ rest) → e.reply ≡ file n blob
    → AnyByRecursion (λ (x : Entry). x.command ≡ done n) rest
lease-at [] rest e n blob back is = back.0 n blob is
lease-at (b ∷ before) rest e n blob back is = lease-at before rest e n blob back.1 is

no-draft-left : (entries : List Entry) (n : ℕ) → GiveAllBack entries → IsDraftLeft n entries → ⊥
no-draft-left entries n back (before, rest, e, parts, given, none) =
    none-of (λ (x : Entry). spends n x ≡ false) (λ (x : Entry). spends n x ≡ true) (λ x no yes. false≢true (sym no ∙ yes)) rest none
    (draft-at before rest e n (subst SpendDrafts parts back.drafts) given)

no-lease-left : (entries : List Entry) (n : ℕ) → GiveAllBack entries → IsLeaseLeft n entries → ⊥
no-lease-left entries n back (before, rest, e, blob, parts, given, none) =
    none-of (λ (x : Entry). (x.command ≡ done n) → ⊥) (λ (x : Entry). x.command ≡ done n) (λ x no yes. no yes) rest none
    (lease-at before rest e n blob (subst ReturnLeases parts back.leases) given)

none-numbered : {X : Type 0} (number : X → ℕ) (xs : List X) → ((n : ℕ) → IsTrue (list_any (λ x. number x == n) xs) → ⊥) → xs ≡ []
none-numbered number [] none = refl
none-numbered number (x ∷ xs) none = absurd (none (number x) (rw (eq-eqb (number x) (number x) refl) refl))

pub nothing-left : (settings : Settings) (start : State) (entries : List Entry) → machine.Legal settings start entries → GiveAllBack entries
    → start.yard.drafts ≡ [] → start.yard.leases ≡ []
    → ((machine.end settings start entries).yard.drafts ≡ []) × ((machine.end settings start entries).yard.leases ≡ [])
nothing-left settings start entries legal back no_drafts no_leases = (
  none-numbered (λ (n : ℕ). n) (machine.end settings start entries).yard.drafts (λ n among. no-draft-left entries n back (draft-left settings start entries n legal no_drafts among)),
  none-numbered (λ (l : Lease). l.number) (machine.end settings start entries).yard.leases (λ n among. no-lease-left entries n back (lease-left settings start entries n legal no_leases among)),
)

-- each caller of a server gives all back
module _ {L P D T C R : Type 0} (looks : Looks L P D) (settings : Settings) (rules : Rules T C R)
    (turns : Turns T C R) (first : Seat C R T) (alone : mine first ≡ []) (apart : joined first ≡ []) (under : Settings) (log : List (Call C R T))
    (fit : AllByRecursion (FitsOne under) (map (entry_of rules.sight) log)) where
  -- a seat that has taken no other in is no such caller, or the caller's entries are its own
  pub own-of : (seat : Seat C R T) → joined seat ≡ [] → HoldsSeat log seat → (k : ℕ) → (times_in k seat ≡ 0) ⊎ (mine seat ≡ entries_by k log)
  own-of seat none holds k =
      elim (eqb_tells (number seat) k) [
        | inl is ↦ inr (subst (λ n. mine seat ≡ entries_by n log) is.1 holds.1.0)
        | inr is ↦ inl (rw (none, is.0) refl)
      ]

  fit-by : (k : ℕ) (entries : List Entry) → entries ≡ map (entry_of rules.sight) (entries_by k log) → AllByRecursion (FitsOne under) entries
  fit-by k entries is = subst (AllByRecursion (FitsOne under)) (sym is) (all-by (entry_of rules.sight) (FitsOne under) k log fit)

  visits-back : (before after : DeskResources) (visits : List (Visit L)) → Attends looks settings before visits after → AllByRecursion (FitsOne under) (entries_of visits)
      → GiveAllBack (entries_of visits)
  visits-back before after [] attends fits = none-back
  visits-back before after (v ∷ vs) attends fits =
      let cut = all-cut (FitsOne under) v.entries (entries_of vs) fits in
      both-back v.entries (entries_of vs) (serves-back under settings looks.tells 1000 v.entries _ _ v.ending cut.0 attends.0) (visits-back v.left after vs attends.1 cut.1)

  passes-back : (before after : Store) (passages : List Passage) → PassesThrough settings before passages after → AllByRecursion (FitsOne under) (entries_in passages)
      → GiveAllBack (entries_in passages)
  passes-back before after [] through fits = none-back
  passes-back before after (p ∷ ps) through fits =
      let cut = all-cut (FitsOne under) p.entries (entries_in ps) fits in
      both-back p.entries (entries_in ps) (pass-back under p.entries cut.0 (passes-ask _ p.entries before p.left p.result through.0)) (passes-back p.left after ps through.1 cut.1)

  abbrev Out : Type 0
  Out = Seat C R T × (D × Bool)

  abbrev Entries : ℕ → List Entry
  Entries k = map (entry_of rules.sight) (entries_by k log)

  -- a caller's entries are a desk's, or the desk has none of them
  desk-entries : (desk : D) (out : Out) (it : DeskDone looks rules settings turns first desk out) → HoldsSeat log out.0 → (k : ℕ)
      → (times_in k out.0 ≡ 0) ⊎ (entries_of it.2.0.visits ≡ Entries k)
  desk-entries desk out (own, begun, (did, over)) holds k = pick (own-of out.0 (did.gained.stays.1 ∙ begun.2) holds k)
    where
      pick : (times_in k out.0 ≡ 0) ⊎ (mine out.0 ≡ entries_by k log) → (times_in k out.0 ≡ 0) ⊎ (entries_of did.visits ≡ Entries k)
      pick (inl away) = inl away
      pick (inr is) =
          let calls : did.gained.calls ≡ entries_by k log = ap (λ (cs : List (Call C R T)). cs ++ did.gained.calls) (sym begun.1) ∙ sym did.gained.mine_are ∙ is in
          inr (did.gained.entries_are ∙ ap (map (entry_of rules.sight)) calls)

  -- or they are the cleaner's
  cleaner-entries : (new : Seat C R T) (before after : CleanerResources) (cleaned : CleanedBeside rules settings turns first new before after) → HoldsSeat log new → (k : ℕ)
      → (times_in k new ≡ 0) ⊎ (entries_in cleaned.2.passages ≡ Entries k)
  cleaner-entries new before after (handed, same, kept) holds k = pick (own-of new (kept.gained.stays.1 ∙ same.3 ∙ apart) holds k)
    where
      pick : (times_in k new ≡ 0) ⊎ (mine new ≡ entries_by k log) → (times_in k new ≡ 0) ⊎ (entries_in kept.passages ≡ Entries k)
      pick (inl away) = inl away
      pick (inr is) =
          let calls : kept.gained.calls ≡ entries_by k log = ap (λ (cs : List (Call C R T)). cs ++ kept.gained.calls) (sym (same.2 ∙ alone)) ∙ sym kept.gained.mine_are ∙ is in
          inr (kept.gained.entries_are ∙ ap (map (entry_of rules.sight)) calls)

  -- what holds where the caller's entries are the first desk's, and where it holds of the desks after that, holds of all
  module _ (k : ℕ) (Q : List D → List Out → Type 0)
      (here : (d : D) (o : Out) (ds : List D) (os : List Out) (it : DeskDone looks rules settings turns first d o) → entries_of it.2.0.visits ≡ Entries k → Q (d ∷ ds) (o ∷ os))
      (more : (d : D) (o : Out) (ds : List D) (os : List Out) → Q ds os → Q (d ∷ ds) (o ∷ os)) where
    desks-so : (desks : List D) (outs : List Out) → AllZip (DeskDone looks rules settings turns first) desks outs
        → All (HoldsSeat log) (map (λ (out : Out). out.0) outs) → sum_by (times_in k) (map (λ (out : Out). out.0) outs) ≡ 1 → Q desks outs
    desks-so [] [] served held one = absurd (omega (arith, one))
    desks-so [] (o ∷ os) served held one = absurd served
    desks-so (d ∷ ds) [] served held one = absurd served
    desks-so (d ∷ ds) (o ∷ os) served held one =
        elim (desk-entries d o served.0 (All-head (HoldsSeat log) o.0 (map (λ (out : Out). out.0) os) held) k) [
          | inl away ↦
              more d o ds os
              (desks-so ds os served.1 (All-tail (HoldsSeat log) o.0 (map (λ (out : Out). out.0) os) held)
              (sym (zero-add _) ∙ subst (λ n. n + sum_by (times_in k) (map (λ (out : Out). out.0) os) ≡ 1) away
              (sym (sum_by-cons (times_in k) o.0 (map (λ (out : Out). out.0) os)) ∙ one)))
          | inr is ↦ here d o ds os served.0 is
        ]

    pub caller-so : (desks : List D) (outs : List Out) → AllZip (DeskDone looks rules settings turns first) desks outs → All (HoldsSeat log) (map (λ (out : Out). out.0) outs)
        → (new : Seat C R T) (before after : CleanerResources) (cleaned : CleanedBeside rules settings turns first new before after) → HoldsSeat log new
        → times_in k new + sum_by (times_in k) (map (λ (out : Out). out.0) outs) ≡ 1 → (entries_in cleaned.2.passages ≡ Entries k → Q desks outs) → Q desks outs
    caller-so desks outs served held new before after cleaned holds one cleaner =
        elim (cleaner-entries new before after cleaned holds k) [
          | inl away ↦ desks-so desks outs served held (sym (zero-add _) ∙ subst (λ n. n + sum_by (times_in k) (map (λ (out : Out). out.0) outs) ≡ 1) away one)
          | inr is ↦ cleaner is
        ]

-- the calls of a history that is legal fit
pub all-fit : (settings : Settings) (s : State) (entries : List Entry) → machine.Legal settings s entries → AllByRecursion (FitsOne settings) entries
all-fit settings s [] legal = tt
all-fit settings s (e ∷ es) legal = ((s, legal.0), all-fit settings (machine.after settings s e) es legal.1)

module _ {L P D T C R : Type 0} (looks : Looks L P D) (settings : Settings) (rules : Rules T C R) where
  pub works-leave-nothing : (turns : Turns T C R) (first : Seat C R T) (old new : RunResources (List D)) (thing : T) (calls : ℕ) (failed : Bool)
      → Works looks rules settings turns first old new thing calls failed
      → mine first ≡ [] → joined first ≡ [] → (rules.sight.state (opening turns)).yard.drafts ≡ [] → (rules.sight.state (opening turns)).yard.leases ≡ []
      → ((rules.sight.state thing).yard.drafts ≡ []) × ((rules.sight.state thing).yard.leases ≡ [])
  works-leave-nothing turns first old new thing calls failed works alone apart no_drafts no_leases =
      subst (λ (s : State). (s.yard.drafts ≡ []) × (s.yard.leases ≡ [])) (sym works.leaves)
      (nothing-left under (rules.sight.state (opening turns)) (map (entry_of rules.sight) log) works.history.legal (whole-back (entry_of rules.sight) log each) no_drafts no_leases)
    where
      under : Settings
      under = rules.sight.settings (opening turns)

      log : List (Call C R T)
      log = works.ended.log

      fit : AllByRecursion (FitsOne under) (map (entry_of rules.sight) log)
      fit = all-fit under (rules.sight.state (opening turns)) (map (entry_of rules.sight) log) works.history.legal

      each : (k : ℕ) → GiveAllBack (map (entry_of rules.sight) (entries_by k log))
      each k =
          elim (works.ended.nobody_else k) [
            | inl one ↦
                caller-so looks settings rules turns first alone apart under log fit k (λ ds os. GiveAllBack (map (entry_of rules.sight) (entries_by k log)))
                (λ d o ds os it is.
                subst GiveAllBack is
                (visits-back looks settings rules turns first alone apart under log fit (looks.resources d) (looks.resources o.1.0) it.2.0.visits it.2.0.attends
                (fit-by looks settings rules turns first alone apart under log fit k (entries_of it.2.0.visits) is)))
                (λ d o ds os back. back) old.desks works.outs works.done works.ended.rest works.cleaning old.cleaner new.cleaner works.cleaned works.ended.first one
                (λ is.
                subst GiveAllBack is
                (passes-back looks settings rules turns first alone apart under log fit old.cleaner.blobs new.cleaner.blobs works.cleaned.2.passages works.cleaned.2.passes
                (fit-by looks settings rules turns first alone apart under log fit k (entries_in works.cleaned.2.passages) is)))
            | inr none ↦ subst (λ (cs : List (Call C R T)). GiveAllBack (map (entry_of rules.sight) cs)) (sym none.1) none-back
          ]
