-- What the seat with all parts says at the end, said of the seats that were joined to it.
use Rattle.std.proofs.Common.{◌≡◌, inl, inr, ℕ, ◌+◌, List, [], ◌∷◌, ◌++◌, All, sum_by, refl, sym, ap, ◌∙◌, subst, arith}
use Rattle.std.specs.List.{flat_map}
use Rattle.std.proofs.lemmas.List.Elements.{All-nil, All-cons, All-head, All-rest}
use Rattle.std.proofs.lemmas.List.Sums.{sum_by-cons}
use Rattle.turn_lock.specs.declared.view.Entry.{Entry}
use Rattle.turn_lock.specs.declared.turns.Turns.{Turns}
use Rattle.turn_lock.specs.declared.seat.SeatToken.{SeatToken as Seat}
use Rattle.turn_lock.specs.History.{BeginsWith, times, AllKept}
use Rattle.turn_lock.specs.Seats.{seen, callers, JoinsAll, Closes}
use Rattle.turn_seats.specs.Ending.{HoldsSeat, times_in, Ended}

module _ {T C R : Type 0} where
  kept_cut : (log : List (Entry C R T)) (ps qs : List (ℕ × List (Entry C R T))) → AllKept log (ps ++ qs) → AllKept log ps × AllKept log qs
  kept_cut log [] qs all = (tt, all)
  kept_cut log (p ∷ ps) qs all = let rest = kept_cut log ps qs all.1 in ((all.0, rest.0), rest.1)

  times-append : (k : ℕ) (ps qs : List (ℕ × List (Entry C R T))) → times k (ps ++ qs) ≡ times k ps + times k qs
  times-append k [] qs = omega arith
  times-append k (p ∷ ps) qs = let h = times-append k ps qs in omega arith

  holds_all : (log : List (Entry C R T)) (others : List (Seat C R T)) → All (λ other. BeginsWith log (seen other)) others → AllKept log (flat_map callers others) → All (HoldsSeat log) others
  holds_all log [] saw kept = All-nil (HoldsSeat log)
  holds_all log (seat ∷ seats) saw kept =
      let cut = kept_cut log (callers seat) (flat_map callers seats) kept in
      All-cons (HoldsSeat log) seat seats (All-head (λ other. BeginsWith log (seen other)) seat seats saw, cut.0)
      (holds_all log seats (All-rest (λ other. BeginsWith log (seen other)) seat seats (seat ∷ seats) refl saw) cut.1)

  times_all : (k : ℕ) (others : List (Seat C R T)) → times k (flat_map callers others) ≡ sum_by (times_in k) others
  times_all k [] = omega arith
  times_all k (seat ∷ seats) =
      let rest = times_all k seats in
      omega (arith, times-append k (callers seat) (flat_map callers seats), sum_by-cons (times_in k) seat seats, rest)

  callers_are : (old new : Seat C R T) (others : List (Seat C R T)) → JoinsAll old others new → callers new ≡ callers old ++ flat_map callers others
  callers_are old new others joins = λ i. (joins.same_number i, joins.same_mine i) ∷ joins.joined_are i

  pub ended : (steps : T → C → R → T → Type 0) (turns : Turns T C R) (old new : Seat C R T) (others : List (Seat C R T)) (thing : T) (calls : ℕ)
      → JoinsAll old others new → Closes steps turns new thing calls → Ended steps turns old others thing calls
  ended steps turns old new others thing calls joins closes =
      let are = callers_are old new others joins in
      let cut = kept_cut (seen new) (callers old) (flat_map callers others) (subst (AllKept (seen new)) are closes.own) in
      let counts : (k : ℕ) → times k (callers new) ≡ times_in k old + sum_by (times_in k) others =
      (λ k. ap (times k) are ∙ times-append k (callers old) (flat_map callers others) ∙ ap (λ n. times_in k old + n) (times_all k others)) in
      record {
        log = seen new;
        legal = closes.legal;
        end = closes.end;
        long = closes.long;
        first = (joins.saw, cut.0);
        rest = holds_all (seen new) others joins.saw_others cut.1;
        nobody_else = λ k. elim (closes.others k) [
          | inl once ↦ inl (sym (counts k) ∙ once)
          | inr never ↦ inr (sym (counts k) ∙ never.0, never.1)
        ];
      }
