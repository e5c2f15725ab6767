-- A seat that was called again and again gained just the entries that were made.
use Rattle.std.proofs.Common.{◌≡◌, List, [], ◌∷◌, ◌++◌, map, refl, sym, subst, ap, ◌∙◌, append_assoc, append-nil}
use Rattle.std.proofs.lemmas.List.{map-append}
use Rattle.repo_model.specs.History.{Entry}
use Rattle.repo_course.specs.Asking.{LeadsTo}
use Rattle.turn_lock.specs.declared.view.Entry.{Entry as Call}
use Rattle.turn_lock.specs.declared.turns.Turns.{Turns}
use Rattle.turn_lock.specs.declared.seat.SeatToken.{SeatToken as Seat}
use Rattle.turn_lock.specs.Seats.{seen, mine, number, IsSeatOf}
use Rattle.turn_seats.specs.Seated.{Sight, entry_of, SeatTurn}
use Rattle.seat_server.specs.Gained.{Gained}

module _ {T C R : Type 0} (sight : Sight T C R) (steps : T → C → R → T → Type 0) where
  pub gained_none : (turns : Turns T C R) (seat : Seat C R T) → IsSeatOf steps turns seat → Gained sight steps turns seat [] seat
  gained_none turns seat is = record {
    calls = [];
    mine_are = sym (append-nil (mine seat));
    entries_are = refl;
    saw = ([], sym (append-nil (seen seat)));
    seat = is;
    stays = (refl, refl, refl, refl);
  }

  gained_one : (turns : Turns T C R) (old : Seat C R T) (entry : Entry) (new : Seat C R T) → SeatTurn sight steps turns old entry new → Gained sight steps turns old (entry ∷ []) new
  gained_one turns old entry new turn =
      let e : Call C R T = record { by = number old; call = turn.call; reply = turn.reply; after = turn.gains.1 } in record {
        calls = e ∷ [];
        mine_are = turn.gains.2.1;
        entries_are = ap (λ n. n ∷ []) turn.entry_is;
        saw = (turn.gains.0 ++ e ∷ [], turn.gains.2.0 ∙ append_assoc (seen old) turn.gains.0 (e ∷ []));
        seat = turn.seat;
        stays = turn.stays;
      }

  -- first these, then those
  pub gained_then : (turns : Turns T C R) (old mid new : Seat C R T) (first later : List Entry) → Gained sight steps turns old first mid → Gained sight steps turns mid later new → Gained sight steps turns old (first ++ later) new
  gained_then turns old mid new first later one two = record {
    calls = one.calls ++ two.calls;
    mine_are = two.mine_are ∙ ap (λ l. l ++ two.calls) one.mine_are ∙ append_assoc (mine old) one.calls two.calls;
    entries_are = ap (λ l. l ++ later) one.entries_are ∙ ap (λ l. map (entry_of sight) one.calls ++ l) two.entries_are ∙ sym (map-append (entry_of sight) one.calls two.calls);
    saw = (one.saw.0 ++ two.saw.0, two.saw.1 ∙ ap (λ l. l ++ two.saw.0) one.saw.1 ∙ append_assoc (seen old) one.saw.0 two.saw.0);
    seat = two.seat;
    stays = (two.stays.0 ∙ one.stays.0, two.stays.1 ∙ one.stays.1, two.stays.2 ∙ one.stays.2, two.stays.3 ∙ one.stays.3);
  }

  -- who asks by one turn of the seat after another, at the same turns
  pub leads_gained : {A : Type 0} (Asks : A → Entry → A → Type 0) (turns_of : A → Turns T C R) (seat_of : A → Seat C R T)
      → ((old : A) (entry : Entry) (new : A) → Asks old entry new → SeatTurn sight steps (turns_of old) (seat_of old) entry (seat_of new) × (turns_of new ≡ turns_of old))
      → (entries : List Entry) (old new : A) → IsSeatOf steps (turns_of old) (seat_of old) → LeadsTo Asks old entries new
      → Gained sight steps (turns_of old) (seat_of old) entries (seat_of new)
  leads_gained Asks turns_of seat_of turn [] old new is led =
      subst (λ m. Gained sight steps (turns_of old) (seat_of old) [] (seat_of m)) (sym led) (gained_none (turns_of old) (seat_of old) is)
  leads_gained Asks turns_of seat_of turn (e ∷ es) old new is led =
      let mid = led.0 in
      let now = turn old e mid led.1 in
      let there : IsSeatOf steps (turns_of mid) (seat_of mid) = subst (λ t. IsSeatOf steps t (seat_of mid)) (sym now.1) now.0.seat in
      let rest = leads_gained Asks turns_of seat_of turn es mid new there led.2 in
      gained_then (turns_of old) (seat_of old) (seat_of mid) (seat_of new) (e ∷ []) es
      (gained_one (turns_of old) (seat_of old) e (seat_of mid) now.0)
      (subst (λ t. Gained sight steps t (seat_of mid) es (seat_of new)) now.1 rest)
