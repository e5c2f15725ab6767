use Rattle.std.proofs.Common.{arith, ◌≡◌, ◌∷◌, ◌++◌, [], List, All, length, map, refl, sym, ap, subst, ◌∙◌, append_assoc, append-nil}
use Rattle.std.proofs.lemmas.List.{map-append}
use Rattle.std.proofs.lemmas.List.Elements.{All-head, All-rest, All-same}
use Rattle.std.specs.Vec.Iter.{into_iter_items}
use Rattle.turn_lock.specs.History.{IsStep}
use Rattle.turn_lock.specs.Seats.{IsSeatOf, JoinsAll}
use Rattle.turn_lock.proofs.Joining.{joins_none, joins_more}
use Rattle.turn_lock.proofs.many.join_all.Goals as goal

nothing_left : {X : Type 0} (l : List X) → length l ≡ 0 → l ≡ []
nothing_left [] none = refl
nothing_left (x ∷ xs) none = absurd (omega arith)

first_is : {X : Type 0} (P : X → Type 0) (x : X) (xs all : List X) → all ≡ x ∷ xs → All P all → P x
first_is P x xs all starts each = All-head P x xs (All-same P (x ∷ xs) all (sym starts) each)

pub loop-other-init : goal.loop-other-init
loop-other-init g c =
    let all = c.into_iter-other-iterator.ensures.into_iter_gives in record {
      order = refl;
      len = (let same = all.1 in omega (arith, ap (λ l. length l) all.0));
      left = All-same (λ other. IsSeatOf (IsStep g.T.Thing.fixed g.T.Thing.may_ask g.T.Thing.turned) c.args.turns.now other.0) (into_iter_items c.into_iter-other-iterator.result) c.args.others.items all.0 c.requires.others;
      seat = c.requires.seat;
      joined = joins_none c.args.seat.now;
      back = c.requires.room.0;
      room = refl;
    }

pub join-requires-clause-other : goal.join-requires-clause-other
join-requires-clause-other g c =
    first_is (λ other. IsSeatOf (IsStep g.T.Thing.fixed g.T.Thing.may_ask g.T.Thing.turned) c.args.turns.now other.0) (c.in-Some.other, c.in-Some.with) (into_iter_items c.next.new.self) (into_iter_items c.loop-other.other-iterator)
    c.in-Some.ensures.steps.0 c.loop-other.invariant.left

pub loop-other-preserved : goal.loop-other-preserved
loop-other-preserved g c =
    let i = c.loop-other.invariant in
    let steps = c.in-Some.ensures.steps in
    let left = into_iter_items c.next.new.self in
    let j = c.join.ensures in
    let push = c.push_reserved.ensures in record {
      order = append_assoc c.loop-other.yielded ((c.in-Some.other, c.in-Some.with) ∷ []) left ∙ rw (← steps.0) i.order;
      len = (let was = i.len in let gone = steps.1 in omega (arith, ap (λ l. length l) steps.0));
      left = All-rest (λ other. IsSeatOf (IsStep g.T.Thing.fixed g.T.Thing.may_ask g.T.Thing.turned) c.args.turns.now other.0) (c.in-Some.other, c.in-Some.with) left (into_iter_items c.loop-other.other-iterator) steps.0 i.left;
      seat = j.seat;
      joined = rw map-append (joins_more c.args.seat.now c.loop-other.seat c.join.new.self (map (λ other. other.0) c.loop-other.yielded) c.in-Some.other i.joined j.saw j.joined j.numbers j.parts j.same);
      back = push.items ∙ ap (λ l. l ++ c.in-Some.with ∷ []) i.back ∙ sym (map-append (λ other. other.1) c.loop-other.yielded ((c.in-Some.other, c.in-Some.with) ∷ []));
      room = push.capacity ∙ i.room;
    }

pub returns-clause-joined : goal.returns-clause-joined
returns-clause-joined g c =
    let i = c.loop-other.invariant in
    let none = nothing_left (into_iter_items c.loop-other.other-iterator) (sym i.len ∙ c.in-None.ensures.steps.0) in
    let all = sym (append-nil c.loop-other.yielded) ∙ ap (λ l. c.loop-other.yielded ++ l) (sym none) ∙ i.order ∙ c.into_iter-other-iterator.ensures.into_iter_gives.0 in
    subst (λ l. JoinsAll c.args.seat.now (map (λ other. other.0) l) c.loop-other.seat) all i.joined
