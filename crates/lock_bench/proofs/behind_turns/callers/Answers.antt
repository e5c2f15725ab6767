use Rattle.std.proofs.Common.{rules, arith, ◌≡◌, ◌∷◌, ◌++◌, [], Some, length, ap, ◌∙◌, length-append}
use Rattle.std.proofs.lemmas.List.Elements.{All-push, All-pop}
use Rattle.turn_lock.specs.History.{IsStep}
use Rattle.turn_lock.specs.Seats.{opening, IsSeatOf}
use Rattle.lock_bench.proofs.behind_turns.callers.Goals as goal

pub loop-seat-preserved : goal.loop-seat-preserved
loop-seat-preserved g c =
    let steps = IsStep g.T.Thing.fixed g.T.Thing.may_ask g.T.Thing.turned in
    let i = c.loop-seat.invariant in
    let items : c.loop-seat.seats.items ≡ c.pop.new.self.items ++ c.in-Some.seat ∷ [] = search rules in
    let push = c.push_reserved.ensures in
    let popped = All-pop (λ seat. IsSeatOf steps c.args.turns.now seat) c.loop-seat.seats.items c.pop.new.self.items (Some c.in-Some.seat) items i.left in
    let was = i.count in record {
      left = popped.0;
      ready = rw push.items (All-push (λ job. IsSeatOf steps job.turns.now job.seat × g.T.Thing.may_ask (g.T.Thing.fixed (opening job.turns.now)) 1) c.loop-seat.room.items _ i.ready (popped.1, c.requires.one));
      count = omega (arith, ap (λ l. length l) push.items, length-append c.loop-seat.room.items, ap (λ l. length l) items, length-append c.pop.new.self.items (c.in-Some.seat ∷ []));
      room = push.capacity ∙ i.room;
    }
