-- Each connection of each desk is answered by cause, in the history of all.
use Rattle.std.proofs.Common.{◌≡◌, ℕ, ◌==◌, Bool, true, false, cond, List, [], ◌∷◌, ◌++◌, map, All, refl, sym, subst, ap, ◌∙◌, append_assoc}
use Rattle.std.specs.List.{AllZip}
use Rattle.std.proofs.lemmas.List.Elements.{All-head, All-tail}
use Rattle.repo_model.specs.History.{Entry, Legal}
use Rattle.repo_model.specs.Settings.{Settings}
use Rattle.repo_model.specs.State.{State}
use Rattle.repo_course.specs.Serving.{Outside, ServesStream}
use Rattle.repo_course.specs.declared.outcomes.End.{End}
use Rattle.run_desks.specs.Seen.{DeskResources, Looks}
use Rattle.turn_lock.specs.declared.view.Entry.{Entry as Call}
use Rattle.turn_lock.specs.declared.turns.Turns.{Turns}
use Rattle.turn_lock.specs.declared.seat.SeatToken.{SeatToken as Seat}
use mathlib.Core.Option.{some}
use lib.ListN.{get_elem?}
use Rattle.atomic_table.specs.Table.{State as Shared}
use Rattle.turn_lock.specs.declared.view.Slot.{Slot}
use Rattle.turn_lock.specs.declared.view.View.{View}
use Rattle.turn_lock.specs.History.{AllKept, entries_by}
use Rattle.turn_lock.specs.Rule.{Kept, accounts}
use Rattle.turn_lock.specs.Seats.{mine, number}
use Rattle.turn_seats.specs.Ending.{HoldsSeat}
use Rattle.turn_seats.specs.Seated.{Sight, entry_of}
use Rattle.answer_laws.specs.Marked.{Mark, entries_of as entries_marked, own_of}
use Rattle.answer_laws.proofs.Due.{stream-answered}
use Rattle.desk_work.specs.Visits.{Attended, Attends, Visit, entries_of}
use Rattle.seat_server.specs.Rules.{Rules}
use Rattle.desk_work.specs.Working.{DeskDone}
use Rattle.desk_laws.specs.Answered.{ConnectionAnswered, DeskAnswered, VisitsAnswered, marked_by}

module _ {T C R : Type 0} (sight : Sight T C R) (k : ℕ) where
  pub marked-entries : (log : List (Call C R T)) → entries_marked (marked_by sight k log) ≡ map (entry_of sight) log
  marked-entries [] = refl
  marked-entries (c ∷ log) = ap (λ (l : List Entry). entry_of sight c ∷ l) (marked-entries log)

  pub marked-own : (log : List (Call C R T)) → own_of (marked_by sight k log) ≡ map (entry_of sight) (entries_by k log)
  marked-own [] = refl
  marked-own (c ∷ log) = by (c.by == k) (marked-own log)
    where
      by : (b : Bool) → own_of (marked_by sight k log) ≡ map (entry_of sight) (entries_by k log)
          → cond b (entry_of sight c ∷ own_of (marked_by sight k log)) (own_of (marked_by sight k log)) ≡ map (entry_of sight) (cond b (c ∷ entries_by k log) (entries_by k log))
      by true same = ap (λ (l : List Entry). entry_of sight c ∷ l) same
      by false same = same

module _ (settings : Settings) (start : State) (history : List Mark) (legal : Legal settings start (entries_marked history)) where
  connection : (tells : Type 0) (past entries rest : List Entry) (old new : Outside) (ending : End) → own_of history ≡ past ++ (entries ++ rest) → ServesStream settings tells 1000 entries old new ending
      → ConnectionAnswered settings start history tells past entries rest old new ending
  connection tells past entries rest old new ending own serves =
      let it = stream-answered settings tells start history legal 1000 past entries rest old new ending own serves in
      record { turns = it.turns; are = it.are; answered = it.answered }

  visits-answered : {L P D : Type 0} (looks : Looks L P D) (past : List Entry) (before after : DeskResources) (visits : List (Visit L)) → own_of history ≡ past ++ entries_of visits
      → Attends looks settings before visits after → VisitsAnswered settings start history looks past before visits
  visits-answered looks past before after [] own attends = tt
  visits-answered looks past before after (v ∷ vs) own attends = (
    connection looks.tells past v.entries (entries_of vs) _ _ v.ending own attends.0,
    visits-answered looks (past ++ v.entries) v.left after vs (own ∙ sym (append_assoc past v.entries (entries_of vs))) attends.1,
  )

module _ {L P D T C R : Type 0} (looks : Looks L P D) (settings : Settings) (rules : Rules T C R)
    (turns : Turns T C R) (start : State) (log : List (Call C R T)) (legal : Legal settings start (map (entry_of rules.sight) log)) where
  -- what a desk has served so far, with a seat that had made no call before, by any history that holds what this has made
  pub so-far-answered : (own new : Seat C R T) (desk back : D) → mine own ≡ [] → Attended looks rules settings turns own new desk back → HoldsSeat log new
      → DeskAnswered looks settings rules.sight start log desk back
  so-far-answered own new desk back none did holds =
      let k = number new in
      let calls : did.gained.calls ≡ entries_by k log = ap (λ (cs : List (Call C R T)). cs ++ did.gained.calls) (sym none) ∙ sym did.gained.mine_are ∙ holds.1.0 in
      let entries : entries_of did.visits ≡ map (entry_of rules.sight) (entries_by k log) = did.gained.entries_are ∙ ap (map (entry_of rules.sight)) calls in
      let own_are : own_of (marked_by rules.sight k log) ≡ entries_of did.visits = marked-own rules.sight k log ∙ sym entries in
      record {
        number = k;
        visits = did.visits;
        attends = did.attends;
        came = did.came;
        went = did.went;
        own = own_are;
        answered = visits-answered settings start (marked_by rules.sight k log) (subst (Legal settings start) (sym (marked-entries rules.sight k log)) legal) looks [] (looks.resources desk)
            (looks.resources back) did.visits own_are did.attends;
      }

module _ {L P D T C R : Type 0} (looks : Looks L P D) (settings : Settings) (rules : Rules T C R)
    (turns : Turns T C R) (first : Seat C R T) (start : State) (log : List (Call C R T)) (legal : Legal settings start (map (entry_of rules.sight) log)) where
  desk-answered : (desk : D) (out : Seat C R T × (D × Bool)) → DeskDone looks rules settings turns first desk out → HoldsSeat log out.0
      → DeskAnswered looks settings rules.sight start log desk out.1.0
  desk-answered desk out (own, begun, (did, over)) holds = so-far-answered looks settings rules turns start log legal own out.0 desk out.1.0 begun.1 did holds

  pub desks-answered : (desks : List D) (outs : List (Seat C R T × (D × Bool))) → AllZip (DeskDone looks rules settings turns first) desks outs
      → All (HoldsSeat log) (map (λ (out : Seat C R T × (D × Bool)). out.0) outs)
      → AllZip (DeskAnswered looks settings rules.sight start log) desks (map (λ (out : Seat C R T × (D × Bool)). out.1.0) outs)
  desks-answered [] [] done held = tt
  desks-answered [] (o ∷ os) done held = absurd done
  desks-answered (d ∷ ds) [] done held = absurd done
  desks-answered (d ∷ ds) (o ∷ os) done held = (
    desk-answered d o done.0 (All-head (HoldsSeat log) o.0 (map (λ (out : Seat C R T × (D × Bool)). out.0) os) held),
    desks-answered ds os done.1 (All-tail (HoldsSeat log) o.0 (map (λ (out : Seat C R T × (D × Bool)). out.0) os) held),
  )

-- at any time the one history begins with what each seat has seen, and has of its callers just their entries
module _ {C R T : Type 0} (log : List (Call C R T)) where
  pub holds-seat : (steps : T → C → R → T → Type 0) (x : T) (s : Shared (Slot C R T) (View C R T)) (seat : Seat C R T) (by : ℕ) → Kept steps x log s
      → get_elem? s.views by ≡ some seat.token.me.0 → seat.token.me.0.named ≡ true → HoldsSeat log seat
  holds-seat steps x s seat by kept is named =
      let v : View C R T = seat.token.me.0 in
      let accounts_are : accounts v ≡ (v.number, v.mine) ∷ v.joined = ap (λ (b : Bool). cond b ((v.number, v.mine) ∷ v.joined) v.joined) named in
      ((kept.word.seen by v is).0, subst (AllKept log) accounts_are (kept.callers.kept by v is))
