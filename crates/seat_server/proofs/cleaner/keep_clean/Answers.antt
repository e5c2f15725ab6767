use Rattle.std.proofs.Common.{true, false, ap, refl, ◌∙◌}
use Rattle.std.specs.Option.{option_map}
use Rattle.outside_pace.specs.Pauses.{paused}
use Rattle.run_desks.specs.Seen.{cleaner_resources}
use Rattle.seat_server.specs.Rules.{rules}
use Rattle.seat_server.proofs.Passing.{answered, so_far_none, so_far_more, so_far_ends}
use Rattle.seat_server.proofs.cleaner.keep_clean.Goals as goal

pub loop-init : goal.loop-init
loop-init g c = record {
  next = tt;
  finite = tt;
  so_far = so_far_none (rules g.T.Thing g.T.Repository.sight) c.args.settings.now c.args.turns.now c.args.seat (cleaner_resources g.B.Blobs g.Q.Pace c.args.cleaner.now) c.requires.seat;
}

pub loop-preserved : goal.loop-preserved
loop-preserved g c =
    let s = c.clean_with-next.ensures.passes in
    let pause = c.pause.ensures in
    let told = g.Q.Pace.pauses c.loop.cleaner.pace in record {
      next = tt;
      finite = tt;
      so_far = so_far_more (rules g.T.Thing g.T.Repository.sight) c.args.settings.now c.args.turns.now c.args.seat c.loop.seat c.clean_with-next.result.0
          (cleaner_resources g.B.Blobs g.Q.Pace c.args.cleaner.now) (cleaner_resources g.B.Blobs g.Q.Pace c.loop.cleaner) (cleaner_resources g.B.Blobs g.Q.Pace (record { blobs = c.clean_with-next.new.blobs; pace = c.pause.new.self })) s.0 c.clean_with-next.result.1
          c.loop.invariant.so_far (answered true c.pause.result told pause.given c.if-not-pause.false) (pause.left ∙ ap (λ n. option_map (paused n) told) c.clean_seconds-seconds.ensures) s.2 s.1;
    }

pub returns-then-not-pause : goal.returns-then-not-pause
returns-then-not-pause g c =
    let pause = c.pause.ensures in
    let told = g.Q.Pace.pauses c.loop.cleaner.pace in
    so_far_ends (rules g.T.Thing g.T.Repository.sight) c.args.settings.now c.args.turns.now c.args.seat c.loop.seat
    (cleaner_resources g.B.Blobs g.Q.Pace c.args.cleaner.now) (cleaner_resources g.B.Blobs g.Q.Pace c.loop.cleaner) (cleaner_resources g.B.Blobs g.Q.Pace (record { blobs = c.loop.cleaner.blobs; pace = c.pause.new.self }))
    c.loop.invariant.so_far (answered false c.pause.result told pause.given c.if-not-pause.true) (pause.left ∙ ap (λ n. option_map (paused n) told) c.clean_seconds-seconds.ensures) refl
