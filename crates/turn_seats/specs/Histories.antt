-- What a seat has seen is a legal history of the repository, and each call of the seat is due in it.
use Rattle.std.proofs.Common.{◌≡◌, List, [], ◌∷◌, ◌++◌, map, refl, sym, subst, ap, ◌∙◌, append_assoc}
use Rattle.repo_model.specs.Asking.{IsAnswerTo, IsDue}
use Rattle.repo_model.specs.Settings.{Settings}
use Rattle.repo_model.specs.State.{State}
use Rattle.repo_model.specs.History as machine
use Rattle.turn_lock.specs.declared.view.Entry.{Entry as Call}
use Rattle.turn_lock.specs.declared.turns.Turns.{Turns}
use Rattle.turn_lock.specs.declared.seat.SeatToken.{SeatToken as Seat}
use Rattle.turn_lock.specs.History.{Legal, end_of}
use Rattle.turn_lock.specs.Seats.{opening, seen, number}
use Rattle.turn_seats.specs.Seated.{Sight, entry_of, IsTurnOf, SeatTurn}

-- the calls, as entries, are a legal history of the repository from the object's state, which leaves the state of the object at their end, under the same settings
pub record IsHistory {T C R : Type 0} (sight : Sight T C R) (x : T) (calls : List (Call C R T)) : Type 0 where
  pub legal : machine.Legal (sight.settings x) (sight.state x) (map (entry_of sight) calls)
  pub ends : sight.state (end_of x calls) ≡ machine.end (sight.settings x) (sight.state x) (map (entry_of sight) calls)
  pub same : sight.settings (end_of x calls) ≡ sight.settings x

module _ {T C R : Type 0} where
  -- a legal history in two parts
  legal_cut : (steps : T → C → R → T → Type 0) (x : T) (xs ys : List (Call C R T)) → Legal steps x (xs ++ ys) → Legal steps x xs × Legal steps (end_of x xs) ys
  legal_cut steps x [] ys legal = (tt, legal)
  legal_cut steps x (e ∷ es) ys legal = let rest = legal_cut steps e.after es ys legal.1 in ((legal.0, rest.0), rest.1)

  end_cut : (x : T) (xs ys : List (Call C R T)) → end_of x (xs ++ ys) ≡ end_of (end_of x xs) ys
  end_cut x [] ys = refl
  end_cut x (e ∷ es) ys = end_cut e.after es ys

  module _ (sight : Sight T C R) (steps : T → C → R → T → Type 0)
      (is_turn : (before after : T) (call : C) (reply : R) → steps before call reply after → IsTurnOf sight before call reply after) where
    pub is_history : (x : T) (calls : List (Call C R T)) → Legal steps x calls → IsHistory sight x calls
    is_history x [] legal = record { legal = tt; ends = refl; same = refl }
    is_history x (e ∷ es) legal =
        let turn = is_turn x e.after e.call e.reply legal.0 in
        let rest = is_history e.after es legal.1 in
        let s = sight.settings x in
        let entries = map (entry_of sight) es in
        let here : machine.Legal s (sight.state e.after) entries = subst (λ (t : Settings). machine.Legal t (sight.state e.after) entries) turn.1 rest.legal in
        let ends : sight.state (end_of e.after es) ≡ machine.end s (sight.state e.after) entries = rest.ends ∙ ap (λ (t : Settings). machine.end t (sight.state e.after) entries) turn.1 in
        record {
          legal = (turn.0.fits, subst (λ (t : State). machine.Legal s t entries) turn.0.leaves here);
          ends = ends ∙ ap (λ (t : State). machine.end s t entries) turn.0.leaves;
          same = rest.same ∙ turn.1;
        }

    -- a call of a seat is due, and is answered as the settings have it
    pub seat_due : (turns next : Turns T C R) (old : Seat C R T) (entry : machine.Entry) (new : Seat C R T) → SeatTurn sight steps turns old entry new → next ≡ turns
        → (sight.settings (opening next) ≡ sight.settings (opening turns))
        × IsDue (sight.settings (opening turns)) (sight.state (end_of (opening turns) (seen old))) entry (sight.state (end_of (opening next) (seen new)))
    seat_due turns next old entry new turn same =
        let x = opening turns in
        let between = turn.gains.0 in
        let after = turn.gains.1 in
        let e : Call C R T = record { by = number old; call = turn.call; reply = turn.reply; after = after } in
        let split : seen new ≡ seen old ++ (between ++ e ∷ []) = turn.gains.2.0 ∙ append_assoc (seen old) between (e ∷ []) in
        let cut = legal_cut steps x (seen old) (between ++ e ∷ []) (subst (Legal steps x) split turn.seat.legal) in
        let before = is_history x (seen old) cut.0 in
        let y = end_of x (seen old) in
        let cut2 = legal_cut steps y between (e ∷ []) cut.1 in
        let mid = is_history y between cut2.0 in
        let z = end_of y between in
        let did = is_turn z after turn.call turn.reply cut2.1.0 in
        let s = sight.settings x in
        let settings_z : sight.settings z ≡ s = mid.same ∙ before.same in
        let there : State = machine.end s (sight.state y) (map (entry_of sight) between) in
        let ends : sight.state z ≡ there = mid.ends ∙ ap (λ (t : Settings). machine.end t (sight.state y) (map (entry_of sight) between)) before.same in
        let fits : machine.Fits s there (entry_of sight e) = subst (λ (t : State). machine.Fits s t (entry_of sight e)) ends (subst (λ (t : Settings). machine.Fits t (sight.state z) (entry_of sight e)) settings_z did.0.fits) in
        let left : end_of (opening next) (seen new) ≡ after = ap (λ (t : Turns T C R). end_of (opening t) (seen new)) same ∙ ap (end_of x) split ∙ end_cut x (seen old) (between ++ e ∷ []) ∙ end_cut y between (e ∷ []) in
        let leaves : sight.state after ≡ machine.after s there (entry_of sight e) = did.0.leaves ∙ ap (λ (t : Settings). machine.after t (sight.state z) (entry_of sight e)) settings_z ∙ ap (λ (t : State). machine.after s t (entry_of sight e)) ends in (
          ap (λ (t : Turns T C R). sight.settings (opening t)) same,
          (
            map (entry_of sight) between,
            subst (λ (t : Settings). machine.Legal t (sight.state y) (map (entry_of sight) between)) before.same mid.legal,
            subst (λ (n : machine.Entry). machine.Fits s there n) (sym turn.entry_is) fits,
            ap sight.state left ∙ leaves ∙ ap (λ (n : machine.Entry). machine.after s there n) (sym turn.entry_is),
          ),
        )

    -- the answer of the last call is one that the settings allow
    pub last_answer : (x : T) (log : List (Call C R T)) (e : Call C R T) → Legal steps x (log ++ e ∷ []) → IsAnswerTo (sight.settings x) (sight.asked e.call) (sight.answered e.reply)
    last_answer x log e legal =
        let cut = legal_cut steps x log (e ∷ []) legal in
        let before = is_history x log cut.0 in
        let did = is_turn (end_of x log) e.after e.call e.reply cut.1.0 in
        subst (λ (t : Settings). IsAnswerTo t (sight.asked e.call) (sight.answered e.reply)) before.same did.0.answer
