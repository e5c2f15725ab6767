-- One seat more: of those that were split off, and of those that were joined.
use Rattle.std.proofs.Common.{◌≡◌, ℕ, ◌+◌, ◌≤◌, List, [], ◌∷◌, ◌++◌, refl, sym, ap, ◌∙◌, arith, append-nil}
use Rattle.std.proofs.lemmas.List.{flat_map_more}
use Rattle.std.proofs.lemmas.List.Elements.{All-nil, All-push, All-weaker}
use Rattle.std.proofs.lemmas.List.Sums.{sum_by-append, sum_by-cons}
use Rattle.turn_lock.specs.declared.seat.SeatToken.{SeatToken as Seat}
use Rattle.turn_lock.specs.History.{BeginsWith}
use Rattle.turn_lock.specs.Seats.{number, seen, mine, joined, given, parts_of, callers, Rise, JoinsAll}
use Rattle.turn_lock.proofs.Histories.{begins_itself, begins_then}

module _ {C R T : Type 0} where
  pub rise_more : (from middle below : ℕ) (seats : List (Seat C R T)) (seat : Seat C R T) → Rise from seats middle → middle ≤ number seat → number seat + 1 ≤ below → Rise from (seats ++ seat ∷ []) below
  rise_more from middle below [] seat rise low high = (omega arith, high)
  rise_more from middle below (x ∷ xs) seat rise low high = (rise.0, rise_more (number x + 1) middle below xs seat rise.1 low high)

  pub joins_none : (seat : Seat C R T) → JoinsAll seat [] seat
  joins_none seat = record {
    saw = begins_itself (seen seat);
    saw_others = All-nil _;
    joined_are = sym (append-nil (joined seat));
    parts_are = omega arith;
    given_grows = omega arith;
    given_others = All-nil _;
    same_number = refl;
    same_mine = refl;
  }

  pub joins_more : (old middle new : Seat C R T) (others : List (Seat C R T)) (seat : Seat C R T) → JoinsAll old others middle
      → BeginsWith (seen new) (seen middle) × BeginsWith (seen new) (seen seat) → joined new ≡ joined middle ++ callers seat → (given middle ≤ given new) × (given seat ≤ given new)
      → parts_of new ≡ parts_of middle + parts_of seat → (number new ≡ number middle) × (mine new ≡ mine middle) → JoinsAll old (others ++ seat ∷ []) new
  joins_more old middle new others seat before saw joins numbers parts same =
      let up = numbers.0 in record {
        saw = begins_then (seen new) (seen middle) (seen old) saw.0 before.saw;
        saw_others = All-push (λ other. BeginsWith (seen new) (seen other)) others seat
            (All-weaker (λ other. BeginsWith (seen middle) (seen other)) (λ other. BeginsWith (seen new) (seen other)) (λ other. begins_then (seen new) (seen middle) (seen other) saw.0) others before.saw_others) saw.1;
        joined_are = joins ∙ ap (λ l. l ++ callers seat) before.joined_are ∙ flat_map_more callers (joined old) others seat;
        parts_are = (let was = before.parts_are in omega (arith, sum_by-append parts_of others (seat ∷ []), sum_by-cons parts_of seat []));
        given_grows = (let was = before.given_grows in omega arith);
        given_others = All-push (λ other. given other ≤ given new) others seat
            (All-weaker (λ other. given other ≤ given middle) (λ other. given other ≤ given new) (λ other below. omega arith) others before.given_others) numbers.1;
        same_number = same.0 ∙ before.same_number;
        same_mine = same.1 ∙ before.same_mine;
      }
