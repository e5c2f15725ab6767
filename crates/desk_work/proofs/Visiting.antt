-- Visits one after another.
use Rattle.std.proofs.Common.{◌≡◌, ℕ, List, [], ◌∷◌, ◌++◌, map, Option, Some, None, refl, sym, subst, ap, ◌∙◌, append_assoc, append-nil}
use Rattle.std.proofs.lemmas.List.{map-append}
use Rattle.std.proofs.lemmas.Grind.{flat_map-append}
use Rattle.outside.specs.Told.{in_front, behind}
use Rattle.repo_model.specs.History.{Entry}
use Rattle.repo_model.specs.Settings.{Settings}
use Rattle.repo_course.specs.declared.outcomes.End.{End}
use Rattle.repo_course.specs.Serving.{ServesStream}
use Rattle.run_desks.specs.Seen.{DeskResources, Looks, around}
use Rattle.turn_lock.specs.declared.turns.Turns.{Turns}
use Rattle.turn_lock.specs.declared.seat.SeatToken.{SeatToken as Seat}
use Rattle.turn_lock.specs.Seats.{IsSeatOf}
use Rattle.seat_server.specs.Gained.{Gained}
use Rattle.seat_server.proofs.Gains.{gained_none, gained_then}
use Rattle.seat_server.specs.Rules.{Rules}
use Rattle.desk_work.specs.Visits.{Visit, Attends, Attended, entries_of}

in_front_none : {L : Type 0} (x : Option (List L)) → x ≡ in_front [] x
in_front_none None = refl
in_front_none (Some l) = refl

in_front_then : {L : Type 0} (xs ys : List L) (x : Option (List L)) → in_front xs (in_front ys x) ≡ in_front (xs ++ ys) x
in_front_then xs ys None = refl
in_front_then xs ys (Some l) = ap Some (sym (append_assoc xs ys l))

after_none : {L : Type 0} (x : Option (List L)) → x ≡ behind x []
after_none None = refl
after_none (Some l) = ap Some (sym (append-nil l))

after_then : {L : Type 0} (x : Option (List L)) (xs ys : List L) → behind (behind x xs) ys ≡ behind x (xs ++ ys)
after_then None xs ys = refl
after_then (Some l) xs ys = ap Some (append_assoc l xs ys)

module _ {L P D : Type 0} (looks : Looks L P D) (settings : Settings) where
  attends_more : (before mid after : DeskResources) (vs : List (Visit L)) (v : Visit L) → Attends looks settings before vs mid
      → ServesStream settings looks.tells 1000 v.entries (around looks [] v.came mid) (around looks v.held v.went v.left) v.ending → after ≡ v.left
      → Attends looks settings before (vs ++ v ∷ []) after
  attends_more before mid after [] v so serves is =
      (subst (λ (k : DeskResources). ServesStream settings looks.tells 1000 v.entries (around looks [] v.came k) (around looks v.held v.went v.left) v.ending) so serves, is)
  attends_more before mid after (u ∷ us) v so serves is = (so.0, attends_more u.left mid after us v so.1 serves is)

  module _ {T C R : Type 0} (rules : Rules T C R) (turns : Turns T C R) where
    pub attended_none : (seat : Seat C R T) (desk : D) → IsSeatOf rules.steps turns seat → Attended looks rules settings turns seat seat desk desk
    attended_none seat desk is = record {
      visits = [];
      attends = refl;
      gained = gained_none rules.sight rules.steps turns seat is;
      came = in_front_none (looks.left (looks.port desk));
      went = after_none (looks.given_back (looks.port desk));
    }

    -- one more connection was handed out, served and given back
    pub attended_more : (a b c : Seat C R T) (first before after : D) (handed : P) (came went : L) (held : List ℕ) (ending : End) (entries : List Entry)
        → Attended looks rules settings turns a b first before
        → looks.left (looks.port before) ≡ in_front (came ∷ []) (looks.left handed) → looks.given_back handed ≡ looks.given_back (looks.port before)
        → looks.left (looks.port after) ≡ looks.left handed → looks.given_back (looks.port after) ≡ behind (looks.given_back handed) (went ∷ [])
        → ServesStream settings looks.tells 1000 entries (around looks [] came (looks.resources before)) (around looks held went (looks.resources after)) ending
        → Gained rules.sight rules.steps turns b entries c → Attended looks rules settings turns a c first after
    attended_more a b c first before after handed came went held ending entries one gives kept same back serves gained =
        let v : Visit L = record { came = came; went = went; held = held; ending = ending; entries = entries; left = looks.resources after } in
        let came_of : List (Visit L) → List L = map (λ (u : Visit L). u.came) in
        let went_of : List (Visit L) → List L = map (λ (u : Visit L). u.went) in
        let all : entries_of (one.visits ++ v ∷ []) ≡ entries_of one.visits ++ entries =
        flat_map-append (λ (u : Visit L). u.entries) one.visits (v ∷ []) ∙ ap (λ l. entries_of one.visits ++ l) (append-nil entries) in
        let rest = looks.left (looks.port after) in
        let given = looks.given_back (looks.port first) in
        record {
          visits = one.visits ++ v ∷ [];
          attends = attends_more (looks.resources first) (looks.resources before) (looks.resources after) one.visits v one.attends serves refl;
          gained = subst (λ (es : List Entry). Gained rules.sight rules.steps turns a es c) (sym all)
              (gained_then rules.sight rules.steps turns a b c (entries_of one.visits) entries one.gained gained);
          came = one.came ∙ ap (in_front (came_of one.visits)) (gives ∙ ap (in_front (came ∷ [])) (sym same)) ∙ in_front_then (came_of one.visits) (came ∷ []) rest
              ∙ ap (λ (l : List L). in_front l rest) (sym (map-append (λ (u : Visit L). u.came) one.visits (v ∷ [])));
          went = back ∙ ap (λ (x : Option (List L)). behind x (went ∷ [])) (kept ∙ one.went) ∙ after_then given (went_of one.visits) (went ∷ [])
              ∙ ap (behind given) (sym (map-append (λ (u : Visit L). u.went) one.visits (v ∷ [])));
        }
