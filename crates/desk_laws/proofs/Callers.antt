-- What holds of the entries of each desk's connections, and of the cleaner's passes, holds of each caller's in the history of all.
use Rattle.std.proofs.Common.{◌≡◌, inl, inr, ℕ, ◌==◌, Bool, true, false, cond, List, [], ◌∷◌, map, sym, subst}
use Rattle.std.specs.List.{AllByRecursion}
use Rattle.repo_model.specs.History.{Entry}
use Rattle.repo_model.specs.Settings.{Settings}
use Rattle.repo_laws.specs.Laws.{AnyByRecursion}
use Rattle.repo_course.specs.Cleaning.{Store}
use Rattle.run_desks.specs.Seen.{RunResources, DeskResources, Looks}
use Rattle.turn_lock.specs.declared.view.Entry.{Entry as Call}
use Rattle.turn_lock.specs.declared.turns.Turns.{Turns}
use Rattle.turn_lock.specs.declared.seat.SeatToken.{SeatToken as Seat}
use Rattle.turn_lock.specs.History.{entries_by}
use Rattle.turn_lock.specs.Seats.{joined, mine, opening}
use Rattle.turn_seats.specs.Seated.{entry_of}
use Rattle.seat_server.specs.Passages.{Passage, PassesThrough, entries_in}
use Rattle.desk_work.specs.Visits.{Attends, Visit, entries_of}
use Rattle.seat_server.specs.Rules.{Rules}
use Rattle.desk_work.specs.Working.{Works}
use Rattle.desk_laws.proofs.Servers.{all-fit, caller-so, is-itself}

module _ {T C R : Type 0} (as_entry : Call C R T → Entry) where
  -- the entries of one caller
  abbrev pub OwnOf : ℕ → List (Call C R T) → List Entry
  OwnOf k log = map as_entry (entries_by k log)

  -- what one caller has, he has with an earlier call too, and all have
  pub kept-by : (Q : Entry → Type 0) (c : Call C R T) (log : List (Call C R T)) (k : ℕ) → AnyByRecursion Q (OwnOf k log) → AnyByRecursion Q (OwnOf k (c ∷ log))
  kept-by Q c log k any =
      elim (c.by == k) as (λ b. AnyByRecursion Q (map as_entry (cond b (c ∷ entries_by k log) (entries_by k log)))) [ true ↦ inr any | false ↦ any ]

  pub first-by : (Q : Entry → Type 0) (c : Call C R T) (log : List (Call C R T)) → Q (as_entry c) → AnyByRecursion Q (OwnOf c.by (c ∷ log))
  first-by Q c log here =
      subst (λ b. AnyByRecursion Q (map as_entry (cond b (c ∷ entries_by c.by log) (entries_by c.by log)))) (sym (is-itself as_entry c.by)) (inl here)

  -- what one of all entries has, one of some caller's has
  pub any-who : (Q : Entry → Type 0) (log : List (Call C R T)) → AnyByRecursion Q (map as_entry log) → (k : ℕ) × AnyByRecursion Q (OwnOf k log)
  any-who Q [] any = absurd any
  any-who Q (c ∷ log) (inl here) = (c.by, first-by Q c log here)
  any-who Q (c ∷ log) (inr later) = let (k, any) = any-who Q log later in (k, kept-by Q c log k any)

  -- what each caller's entries have, all have
  pub all-whole : (P : Entry → Type 0) (log : List (Call C R T)) → ((k : ℕ) → AllByRecursion P (OwnOf k log)) → AllByRecursion P (map as_entry log)
  all-whole P [] each = tt
  all-whole P (c ∷ log) each = (own.0, all-whole P log (λ k. behind k (c.by == k) (each k)))
    where
      own : AllByRecursion P (as_entry c ∷ OwnOf c.by log)
      own = subst (λ b. AllByRecursion P (map as_entry (cond b (c ∷ entries_by c.by log) (entries_by c.by log)))) (is-itself as_entry c.by) (each c.by)

      behind : (k : ℕ) (b : Bool) → AllByRecursion P (map as_entry (cond b (c ∷ entries_by k log) (entries_by k log))) → AllByRecursion P (OwnOf k log)
      behind k true all = all.1
      behind k false all = all

-- what holds of the entries of a desk's connections and of the cleaner's passes holds of each caller's entries
module _ {L P D T C R : Type 0} (looks : Looks L P D) (settings : Settings) (rules : Rules T C R) (turns : Turns T C R) (first : Seat C R T)
    (old new : RunResources (List D)) (thing : T) (calls : ℕ) (failed : Bool) (works : Works looks rules settings turns first old new thing calls failed)
    (alone : mine first ≡ []) (apart : joined first ≡ []) (Q : List Entry → Type 0) (none : Q []) where
  abbrev pub Own : ℕ → List Entry
  Own k = OwnOf (entry_of rules.sight) k works.ended.log

  pub each-caller : ((k : ℕ) (before after : DeskResources) (visits : List (Visit L)) → Attends looks settings before visits after → entries_of visits ≡ Own k → Q (entries_of visits))
      → ((k : ℕ) (before after : Store) (passages : List Passage) → PassesThrough settings before passages after → entries_in passages ≡ Own k → Q (entries_in passages))
      → (k : ℕ) → Q (Own k)
  each-caller of_visits of_passes k =
      let fit = all-fit (rules.sight.settings (opening turns)) (rules.sight.state (opening turns)) (map (entry_of rules.sight) works.ended.log) works.history.legal in
      elim (works.ended.nobody_else k) [
        | inl one ↦
            caller-so looks settings rules turns first alone apart (rules.sight.settings (opening turns)) works.ended.log fit k (λ ds os. Q (Own k))
            (λ d o ds os it is. subst Q is (of_visits k (looks.resources d) (looks.resources o.1.0) it.2.0.visits it.2.0.attends is)) (λ d o ds os so. so)
            old.desks works.outs works.done works.ended.rest works.cleaning old.cleaner new.cleaner works.cleaned works.ended.first one
            (λ is. subst Q is (of_passes k old.cleaner.blobs new.cleaner.blobs works.cleaned.2.passages works.cleaned.2.passes is))
        | inr nobody ↦ subst (λ (cs : List (Call C R T)). Q (map (entry_of rules.sight) cs)) (sym nobody.1) none
      ]
