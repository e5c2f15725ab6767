-- What the seat with all parts knows once the table is closed.
use Rattle.std.proofs.Common.{◌≡◌, ℕ, ◌*◌, ◌/◌, ◌^◌, ◌⊎◌, List, [], length, sym, ap, ◌∙◌, subst, arith}
use mathlib.Core.Option.{some, some-injective}
use lib.ListN.{get_elem?}
use Rattle.atomic_table.specs.Table.{Final, Seen}
use Rattle.turn_lock.specs.declared.view.Slot.{Slot}
use Rattle.turn_lock.specs.declared.view.Slot.TheVariants.{Home}
use Rattle.turn_lock.specs.declared.turns.Turns.{Turns}
use Rattle.turn_lock.specs.declared.seat.SeatToken.{SeatToken as Seat}
use Rattle.turn_lock.specs.History.{end_of, entries_by, AllKept, times}
use Rattle.turn_lock.specs.Rule.{Lawful}
use Rattle.turn_lock.specs.Seats.{opening, seen, callers, IsSeatOf, Closes}
use Rattle.turn_lock.proofs.CallerSteps.{accounts_named}
use Rattle.turn_lock.proofs.Ends.{Ended, ends}
use Rattle.turn_lock.proofs.Holdings.{same_home}
use Rattle.turn_lock.proofs.Whole.{whole}

module _ {T C R : Type 0} (turned : T → C → R → T → Type 0) (turns : Turns T C R) (seat : Seat C R T) (words : List ℕ) (slots : List (Slot C R T))
    (of : IsSeatOf turned turns seat) (all : seat.token.me.0.parts ≡ 2 ^ 64) (final : Final (Seen (Lawful turned (opening turns)) seat.token.id seat.token.me.0) words slots) where
  pub ended : Ended turned (opening turns) seat.token.id seat.token.me.0 words slots
  ended = ends turned (opening turns) seat.token.id seat.token.me.0 words slots all of.idle final

  pub is_home : (slot : Slot C R T) → get_elem? slots 0 ≡ some slot → slot ≡ Home (end_of (opening turns) ended.log)
  is_home slot at = some-injective _ _ (sym at ∙ ended.home)

  pub seen_all : ended.log ≡ seen seat
  seen_all =
      let own = accounts_named seat.token.me.0 of.named in
      let e = ended in
      whole e.log (seen seat) (callers seat) e.begins (subst (AllKept e.log) own e.own) of.own
      (λ k. subst (λ ps. (times k ps ≡ 1) ⊎ ((times k ps ≡ 0) × (entries_by k e.log ≡ []))) own (e.others k))

  pub closes : (n : ℕ) (x : T) → get_elem? words 0 ≡ some n → get_elem? slots 0 ≡ some (Home x) → Closes turned turns seat x (n / 2)
  closes n x word_at home_at =
      let e = ended in
      let own = accounts_named seat.token.me.0 of.named in
      let double : n ≡ 2 * length (seen seat) = some-injective _ _ (sym word_at ∙ ap (λ (ws : List ℕ). get_elem? ws 0) e.word) ∙ ap (λ l. 2 * length l) seen_all in record {
        legal = of.legal;
        end = same_home x (end_of (opening turns) e.log) (is_home (Home x) home_at) ∙ ap (end_of (opening turns)) seen_all;
        long = omega arith;
        own = of.own;
        others = λ k. subst (λ l. (times k (callers seat) ≡ 1) ⊎ ((times k (callers seat) ≡ 0) × (entries_by k l ≡ []))) seen_all
            (subst (λ ps. (times k ps ≡ 1) ⊎ ((times k ps ≡ 0) × (entries_by k e.log ≡ []))) own (e.others k));
      }
