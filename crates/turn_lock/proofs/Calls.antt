-- What a call leaves, from its three steps.
use Rattle.std.proofs.Common.{◌≡◌, ℕ, ◌+◌, ◌^◌, ◌≤◌, [], ◌∷◌, ◌++◌, length, eqb, true, sym, ap, ◌∙◌, subst, arith, length-append}
use mathlib.Core.Option.{some}
use prog.Atomic.{either}
use Rattle.atomic_table.specs.Table.{step, Allows}
use Rattle.atomic_table.specs.declared.shared.Seat.{Seat as Token}
use Rattle.turn_lock.specs.declared.view.Entry.{Entry}
use Rattle.turn_lock.specs.declared.view.View.{View}
use Rattle.turn_lock.specs.declared.view.Slot.{Slot}
use Rattle.turn_lock.specs.declared.turns.Turns.{Turns}
use Rattle.turn_lock.specs.History.{Legal, end_of, AllKept, AllOnce, AllBelow}
use Rattle.turn_lock.specs.declared.view.Slot.TheVariants.{Told}
use Rattle.turn_lock.specs.Rule.{Sound, Lawful}
use Rattle.turn_lock.specs.Plays.{Gives}
use Rattle.turn_lock.specs.Views.{gave, holding}
use Rattle.turn_lock.specs.Seats.{opening, IsSeatOf, Gains}
use Rattle.turn_lock.specs.Holding.{HasTurn, TookTurn}
use Rattle.turn_lock.proofs.Histories.{legal_snoc}
use Rattle.turn_lock.proofs.Steps.{gives_turn}
use Rattle.turn_lock.proofs.CallerSteps.{accounts_named}

-- the step that gives the turn back, after the two that came before it
pub gives_back : {T C R : Type 0} (turned : T → C → R → T → Type 0) (turns : Turns T C R) (slots : ℕ) (t0 t1 t2 : Token (Slot C R T) (View C R T)) (word : ℕ) (call : C) (reply : R) (told : Slot C R T)
    → IsSeatOf turned turns (record { token = t0 }) → HasTurn turned turns t0 t1 word → TookTurn turned turns t1 t2 call reply told
    → Allows (Lawful turned (opening turns)) slots t2.id t2.me 0 (λ n. either (eqb n (word + 1)) (word + 2) n) (λ _ w. Gives (step slots 0 (word + 1) (word + 2) (some told)) t2.me w)
gives_back {T} {C} {R} turned turns slots t0 t1 t2 word call reply told free took turn =
    let held : t2.me.0 ≡ holding t0.me.0 t1.me.0.seen = turn.view ∙ took.view in
    let same_seen : t2.me.0.seen ≡ t1.me.0.seen = ap (λ v. v.seen) turn.view in
    let two : (word + 1) + 1 ≡ word + 2 = omega arith in
    subst (λ (x : Slot C R T). Allows (Lawful turned (opening turns)) slots t2.id t2.me 0 (λ n. either (eqb n (word + 1)) (word + 2) n) (λ _ w. Gives (step slots 0 (word + 1) (word + 2) (some x)) t2.me w)) (sym turn.told_is)
    (subst (λ (y : ℕ). Allows (Lawful turned (opening turns)) slots t2.id t2.me 0 (λ n. either (eqb n (word + 1)) y n) (λ _ w. Gives (step slots 0 (word + 1) y (some (Told turn.asked turn.answered))) t2.me w)) two
    (gives_turn turned (opening turns) slots t2.id t2.me turn.asked turn.answered turn.after (word + 1) turn.thing
    (let e : t2.me.0.parts ≡ t0.me.0.parts = ap (λ v. v.parts) held in let a = free.alive in omega arith)
    (ap (λ v. v.named) held ∙ free.named)
    (ap (λ v. v.turn) held)
    (let e : length t2.me.0.seen ≡ length t1.me.0.seen = ap (λ l. length l) same_seen in let d = took.double in omega arith)
    (subst (λ l. turned (end_of (opening turns) l) turn.asked.value turn.answered.value turn.after) (sym same_seen)
    (subst (λ (x : C). turned (end_of (opening turns) t1.me.0.seen) x turn.answered.value turn.after) (sym turn.call_is)
    (subst (λ (x : R). turned (end_of (opening turns) t1.me.0.seen) call x turn.after) (sym turn.reply_is) turn.turn)))))

module _ {T C R : Type 0} (turned : T → C → R → T → Type 0) (turns : Turns T C R) (t0 t1 t2 t3 : Token (Slot C R T) (View C R T))
    (word : ℕ) (call : C) (reply : R) (told : Slot C R T) (free : IsSeatOf turned turns (record { token = t0 })) (took : HasTurn turned turns t0 t1 word) (turn : TookTurn turned turns t1 t2 call reply told)
    (place : t3.table_id ≡ t2.table_id)
    (gives : Sound t3.me.0 × (t3.me ≡ (gave t2.me.0 (record { by = t2.me.0.number; call = turn.asked.value; reply = turn.answered.value; after = turn.after }), []))) where
  made : Entry C R T
  made = record { by = t0.me.0.number; call = call; reply = reply; after = turn.after }

  whole : t3.me.0 ≡ record t0.me.0 { turn = 0; seen = t1.me.0.seen ++ made ∷ []; mine = t0.me.0.mine ++ made ∷ [] }
  unfolding made
  whole =
      let held : t2.me.0 ≡ holding t0.me.0 t1.me.0.seen = turn.view ∙ took.view in
      ap (λ m. m.0) gives.1 ∙ (λ i. gave (held i) (record { by = (held i).number; call = turn.call_is i; reply = turn.reply_is i; after = turn.after }))

  pub still_seat : IsSeatOf turned turns (record { token = t3 })
  unfolding made
  still_seat =
      let named : t3.me.0.named ≡ true = ap (λ v. v.named) whole ∙ free.named in record {
        place = place ∙ turn.place;
        alone = ap (λ m. m.1) gives.1;
        named = named;
        idle = ap (λ v. v.turn) whole;
        alive = (let e = ap (λ (v : View C R T). v.parts) whole in let a = free.alive in omega arith);
        from = ap (λ v. v.opening) whole ∙ free.from;
        legal = subst (Legal turned (opening turns)) (sym (ap (λ (v : View C R T). v.seen) whole)) (legal_snoc turned (opening turns) t1.me.0.seen made took.holds.legal turn.turn);
        own = subst (AllKept t3.me.0.seen) (accounts_named t3.me.0 named) gives.0.own;
        once = subst AllOnce (accounts_named t3.me.0 named) gives.0.once;
        below = subst (AllBelow t3.me.0.given) (accounts_named t3.me.0 named) gives.0.below;
      }

  pub gains : Gains (record { token = t0 }) call reply (record { token = t3 })
  unfolding made
  gains = (took.grows.0, turn.after, (ap (λ v. v.seen) whole ∙ ap (λ l. l ++ made ∷ []) took.grows.1, ap (λ v. v.mine) whole))

  pub same_number : t3.me.0.number ≡ t0.me.0.number
  same_number = ap (λ v. v.number) whole

  pub same_joined : t3.me.0.joined ≡ t0.me.0.joined
  same_joined = ap (λ v. v.joined) whole

  pub same_given : t3.me.0.given ≡ t0.me.0.given
  same_given = ap (λ v. v.given) whole

  pub same_parts : t3.me.0.parts ≡ t0.me.0.parts
  same_parts = ap (λ v. v.parts) whole

  pub room : length t3.me.0.seen ≤ 2 ^ 62
  room =
      let e : length t3.me.0.seen ≡ length (t1.me.0.seen ++ made ∷ []) = ap (λ (v : View C R T). length v.seen) whole in
      let l = length-append t1.me.0.seen (made ∷ []) in
      let d = took.double in let r = took.room in omega arith
