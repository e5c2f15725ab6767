-- What a seat knows once another was split off from it, or taken in.
use Rattle.std.proofs.Common.{◌≡◌, ℕ, ◌+◌, ◌<◌, ◌≤◌, List, [], ◌∷◌, ◌++◌, Some, true, sym, ap, ◌∙◌, subst, arith}
use Rattle.std.specs.Prelude.{IfSome}
use mathlib.Core.Logic.{dite}
use native.Mathlib.Decide.{ℕ_discrete}
use Rattle.atomic_table.specs.declared.shared.Seat.{Seat as Token}
use Rattle.turn_lock.specs.declared.view.Entry.{Entry}
use Rattle.turn_lock.specs.declared.view.View.{View}
use Rattle.turn_lock.specs.declared.view.Slot.{Slot}
use Rattle.turn_lock.specs.declared.turns.Turns.{Turns}
use Rattle.turn_lock.specs.History.{Legal, times, AllKept, AllOnce, AllBelow}
use Rattle.turn_lock.specs.Views.{drawn, without, offshoot, both}
use Rattle.turn_lock.specs.Plays.{Looks, Draws}
use Rattle.turn_lock.specs.Seats.{opening, IsSeatOf}
use Rattle.turn_lock.specs.Holding.{Merged, SplitsOff}
use Rattle.turn_lock.proofs.Histories.{times_here, times_else}
use Rattle.turn_lock.proofs.CallerSteps.{accounts_named}

module _ {C R T : Type 0} where
  -- an account alone stands there once, below any greater number
  once_alone : (p : ℕ × List (Entry C R T)) → AllOnce (p ∷ [])
  once_alone p k =
      dite (ℕ_discrete p.0 k)
      (λ is. subst (λ (j : ℕ). times j (p ∷ []) ≤ 1) is (let e = times_here p [] in omega arith))
      (λ no. let e = times_else k p [] no in omega arith)

  below_alone : (p : ℕ × List (Entry C R T)) → AllBelow (p.0 + 1) (p ∷ [])
  below_alone p k above = times_else k p [] (λ is. omega arith)

module _ {T C R : Type 0} (turned : T → C → R → T → Type 0) (turns : Turns T C R) where
  -- the seat that drew a number, and split a seat off with it
  pub splits_off : (t0 t1 t2 made : Token (Slot C R T) (View C R T)) (amount : ℕ) → 0 < amount → amount < t0.me.0.parts → IsSeatOf turned turns (record { token = t0 })
      → t1.table_id ≡ t0.table_id → Draws t0.me t1.me
      → t2.table_id ≡ t1.table_id → t2.me ≡ (without amount t1.me.0, t1.me.1) → made.table_id ≡ t1.table_id → made.me ≡ (offshoot amount t1.me.0, [])
      → SplitsOff turned turns (record { token = t0 }) (record { token = t2 }) (record { token = made }) amount
  splits_off t0 t1 t2 made amount some_parts fewer of place_1 draws place_2 left place_3 right =
      let v = t0.me.0 in
      let n = draws.0 in
      let drew : t1.me.0 ≡ drawn v n = ap (λ m. m.0) draws.3 in
      let view : t2.me.0 ≡ without amount (drawn v n) = ap (λ m. m.0) left ∙ ap (without amount) drew in
      let new : made.me.0 ≡ offshoot amount (drawn v n) = ap (λ m. m.0) right ∙ ap (offshoot amount) drew in record {
        seat = record {
          place = place_2 ∙ place_1 ∙ of.place;
          alone = ap (λ m. m.1) left ∙ ap (λ m. m.1) draws.3 ∙ of.alone;
          named = ap (λ w. w.named) view ∙ of.named;
          idle = ap (λ w. w.turn) view ∙ of.idle;
          alive = (let e : t2.me.0.parts ≡ (without amount (drawn v n)).parts = ap (λ w. w.parts) view in omega arith);
          from = ap (λ w. w.opening) view ∙ of.from;
          legal = subst (λ w. Legal turned (opening turns) w.seen) (sym view) of.legal;
          own = subst (λ w. AllKept w.seen ((w.number, w.mine) ∷ w.joined)) (sym view) of.own;
          once = subst (λ (w : View C R T). AllOnce ((w.number, w.mine) ∷ w.joined)) (sym view) of.once;
          below = subst (λ w. AllBelow w.given ((w.number, w.mine) ∷ w.joined)) (sym view) (λ k above. of.below k (let a = draws.1 in omega arith));
        };
        same = (ap (λ w. w.number) view, ap (λ w. w.seen) view, ap (λ w. w.mine) view, ap (λ w. w.joined) view);
        left = (let e : t2.me.0.parts ≡ (without amount (drawn v n)).parts = ap (λ w. w.parts) view in omega arith);
        other = record {
          place = place_3 ∙ place_1 ∙ of.place;
          alone = ap (λ m. m.1) right;
          named = ap (λ w. w.named) new;
          idle = ap (λ w. w.turn) new;
          alive = (let e : made.me.0.parts ≡ amount = ap (λ w. w.parts) new in omega arith);
          from = ap (λ w. w.opening) new ∙ of.from;
          legal = subst (λ w. Legal turned (opening turns) w.seen) (sym new) of.legal;
          own = subst (λ w. AllKept w.seen ((w.number, w.mine) ∷ w.joined)) (sym new) (sym draws.2, tt);
          once = subst (λ (w : View C R T). AllOnce ((w.number, w.mine) ∷ w.joined)) (sym new) (once_alone {C = C} {R = R} {T = T} (n, []));
          below = subst (λ w. AllBelow w.given ((w.number, w.mine) ∷ w.joined)) (sym new) (below_alone {C = C} {R = R} {T = T} (n, []));
        };
        parts_are = ap (λ w. w.parts) new;
        seen_is = ap (λ w. w.seen) new;
        mine_is = ap (λ w. w.mine) new;
        joined_is = ap (λ w. w.joined) new;
        above = subst (λ k. v.given ≤ k) (sym (ap (λ w. w.number) new)) draws.1;
        next = ap (λ w. w.given) view ∙ ap (λ k. k + 1) (sym (ap (λ w. w.number) new));
        given_is = ap (λ w. w.given) new ∙ sym (ap (λ w. w.given) view);
      }

  -- the seat that took a token in, and looked
  pub merged : (t0 token t1 t2 : Token (Slot C R T) (View C R T)) → IsSeatOf turned turns (record { token = t0 })
      → t1.table_id ≡ t0.table_id → t1.me ≡ (both t0.me.0 token.me.0, t0.me.1) → t2.table_id ≡ t1.table_id → Looks turned t1.me t2.me
      → Merged turned turns (record { token = t0 }) token (record { token = t2 })
  merged t0 token t1 t2 of place_1 joins place_2 looks =
      let v = t0.me.0 in
      let joint : t1.me.0 ≡ both v token.me.0 = ap (λ m. m.0) joins in
      let log = t2.me.0.seen in
      let view : t2.me.0 ≡ record (both v token.me.0) { seen = log } = ap (λ m. m.0) looks.4 ∙ ap (λ (w : View C R T). record w { seen = log }) joint in
      let named : t2.me.0.named ≡ true = ap (λ w. w.named) view ∙ of.named in
      let from : t1.me.0.opening ≡ Some (opening turns) = ap (λ w. w.opening) joint ∙ of.from in record {
        seat = record {
          place = place_2 ∙ place_1 ∙ of.place;
          alone = ap (λ m. m.1) looks.4 ∙ ap (λ m. m.1) joins ∙ of.alone;
          named = named;
          idle = ap (λ w. w.turn) view ∙ of.idle;
          alive = (let e : t2.me.0.parts ≡ v.parts + token.me.0.parts = ap (λ w. w.parts) view in let a = of.alive in omega arith);
          from = ap (λ w. w.opening) view ∙ of.from;
          legal = subst (λ o. IfSome o (λ x. Legal turned x log)) from looks.2;
          own = subst (AllKept log) (accounts_named t2.me.0 named) looks.3.own;
          once = subst AllOnce (accounts_named t2.me.0 named) looks.3.once;
          below = subst (AllBelow t2.me.0.given) (accounts_named t2.me.0 named) looks.3.below;
        };
        saw = (looks.0.0, looks.0.1 ∙ ap (λ (w : View C R T). w.seen ++ looks.0.0) joint);
        saw_other = (looks.1.0, looks.1.1 ∙ ap (λ (w : View C R T). w.told ++ looks.1.0) joint);
        joined_is = ap (λ w. w.joined) view;
        parts_are = ap (λ w. w.parts) view;
        given_is = ap (λ w. w.given) view;
        same_number = ap (λ w. w.number) view;
        same_mine = ap (λ w. w.mine) view;
      }
