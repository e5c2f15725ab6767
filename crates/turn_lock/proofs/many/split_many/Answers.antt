use Rattle.std.proofs.Common.{arith, ◌∷◌, [], length, ◌∙◌, ap, length-append}
use Rattle.std.proofs.lemmas.List.Elements.{All-push}
use Rattle.turn_lock.specs.History.{IsStep}
use Rattle.turn_lock.specs.Seats.{given, IsSeatOf, IsFresh}
use Rattle.turn_lock.proofs.Joining.{rise_more}
use Rattle.turn_lock.proofs.many.split_many.Goals as goal

pub loop-preserved : goal.loop-preserved
loop-preserved g c =
    let i = c.loop.invariant in
    let s = c.split.ensures in
    let push = c.push_reserved.ensures in
    let left = s.old.2 in
    let was = i.left in
    let len = push.len in
    let test = c.loop-test.true in record {
      seat = s.old.0;
      same = (s.old.1.0 ∙ i.same.0, s.old.1.1 ∙ i.same.1, s.old.1.2 ∙ i.same.2, s.old.1.3 ∙ i.same.3);
      left = omega arith;
      new = rw push.items (All-push (λ other. IsSeatOf (IsStep g.T.Thing.fixed g.T.Thing.may_ask g.T.Thing.turned) c.args.turns.now other × IsFresh c.args.seat.now other) c.loop.room.items c.split.result i.new
          (s.new.0, (s.new.1, s.new.2 ∙ i.same.1, s.new.3, s.new.4)));
      numbers = rw push.items (rise_more (given c.args.seat.now) (given c.loop.seat) (given c.split.new.self) c.loop.room.items c.split.result i.numbers s.number.0 (let n = s.number.1 in omega arith));
      len = (let n = i.len in omega (arith, ap (λ l. length l) push.items, length-append c.loop.room.items (c.split.result ∷ [])));
      within = omega arith;
      room = push.capacity ∙ i.room;
    }
