use Rattle.std.proofs.Common.{arith, ◌≡◌, ◌∷◌, ◌++◌, [], length, map, refl, ap, ◌∙◌, append_assoc, length-append}
use Rattle.std.proofs.lemmas.List.{map-append}
use Rattle.std.proofs.lemmas.List.Elements.{All-nil, All-push}
use Rattle.std.specs.Vec.Iter.{into_iter_items}
use Rattle.turn_lock.specs.History.{IsStep}
use Rattle.turn_lock.specs.Seats.{IsSeatOf}
use Rattle.desk_work.specs.Working.{IsBegun}
use Rattle.desk_work.proofs.seating.seated.Goals as goal

pub loop-desk-init : goal.loop-desk-init
loop-desk-init g c =
    let all = c.into_iter-desk-iterator.ensures.into_iter_gives in record {
      order = refl;
      len = (let same = all.1 in omega (arith, ap (λ l. length l) all.0));
      seat = c.requires.seat;
      same = (refl, refl, refl, refl);
      left = omega arith;
      jobs = rw c.requires.room.0 (All-nil _);
      desks = ap (map (λ job. job.desk)) c.requires.room.0;
      room = refl;
    }

pub loop-desk-preserved : goal.loop-desk-preserved
loop-desk-preserved g c =
    let i = c.loop-desk.invariant in
    let steps = c.in-Some.ensures.steps in
    let left = into_iter_items c.next.new.self in
    let s = c.split-own.ensures in
    let push = c.push_reserved.ensures in
    let made = c.desk_job.ensures in
    let was = i.left in
    let less = s.old.2 in record {
      order = append_assoc c.loop-desk.yielded (c.in-Some.desk ∷ []) left ∙ rw (← steps.0) i.order;
      len = (let was = i.len in let gone = steps.1 in omega (arith, ap (λ l. length l) steps.0));
      seat = s.old.0;
      same = (s.old.1.0 ∙ i.same.0, s.old.1.1 ∙ i.same.1, s.old.1.2 ∙ i.same.2, s.old.1.3 ∙ i.same.3);
      left = omega (arith, length-append c.loop-desk.yielded (c.in-Some.desk ∷ []));
      jobs = rw push.items (All-push (λ job. (job.house.now ≡ c.args.house.now) × IsSeatOf (IsStep g.T.Thing.fixed g.T.Thing.may_ask g.T.Thing.turned) c.args.house.now.turns job.seat × IsBegun c.args.seat.now job.seat) c.loop-desk.room.items c.desk_job.result i.jobs
          (made.0, rw made.1 s.new.0, rw made.1 (s.new.2 ∙ i.same.1, s.new.3, s.new.4, s.new.1)));
      desks = ap (map (λ job. job.desk)) push.items ∙ map-append (λ job. job.desk) c.loop-desk.room.items (c.desk_job.result ∷ []) ∙ ap (λ l. l ++ c.desk_job.result.desk ∷ []) i.desks ∙ ap (λ d. c.loop-desk.yielded ++ d ∷ []) made.2;
      room = push.capacity ∙ i.room;
    }
