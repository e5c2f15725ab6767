use Rattle.repo_model.specs.History.{MomentFits}
use Rattle.repo_model.specs.Shown.{shown_command, shown_reply}
use Rattle.repo_core.specs.Whole.{Parts}
use Rattle.repo_core.proofs.Turning.{begun-fit, moment-given, ticked-orderly, turned-fits, turned-after, turned-records}
use Rattle.repo_core.proofs.machine.Machine.call.Goals as goal

pub answer-requires-clause-orderly : goal.answer-requires-clause-orderly
answer-requires-clause-orderly g c =
    let orderly = rw (← c.self.view_is) at c.requires.orderly in
    rw c.next_moment-self-inside.ensures.clock (ticked-orderly _ c.next_moment-self-inside.result _ orderly)

pub answer-requires-clause-records : goal.answer-requires-clause-records
answer-requires-clause-records g c =
    let w = c.args.self.now in
    let moment = c.next_moment-self-inside.result in
    let read = c.next_moment-self-inside.ensures in
    let begun : Parts = record {
      settings = c.self.inside.settings;
      state = record { hosted = c.self.inside.repos.items; proxies = c.self.inside.proxies.items; sessions = c.self.inside.sessions.sessions; yard = c.self.inside.yard.yard; last = moment; clock = g.C.Clock.moments c.next_moment-self-inside.new.clock; faults = 0 };
      calls = w.calls;
    } in
    begun-fit w begun (g.K.Records.shows c.args.records.now) (shown_command c.args.command) moment (rw (← c.self.view_is)) (rw (← c.self.view_is, read.clock)) (rw (← c.self.view_is) read.order) read.limit c.requires.records

pub returns-clause-fits : goal.returns-clause-fits
returns-clause-fits g c =
    let w = c.args.self.now in
    let moment = c.next_moment-self-inside.result in
    let read = c.next_moment-self-inside.ensures in
    let fits : MomentFits w.state moment = moment-given w.state moment (rw (← c.self.view_is) read.given) (rw (← c.self.view_is) read.order) read.limit in
    turned-fits w _ c.answer.new.self moment (shown_command c.args.command) (shown_reply c.answer.result) (g.K.Records.shows c.args.records.now) (g.K.Records.shows c.answer.new.records) c.answer.ensures.turn (rw (← c.self.view_is)) (rw (← c.self.view_is, read.clock)) c.requires.meets fits

pub returns-clause-after : goal.returns-clause-after
returns-clause-after g c =
    let w = c.args.self.now in
    let moment = c.next_moment-self-inside.result in
    let read = c.next_moment-self-inside.ensures in
    turned-after w _ c.answer.new.self moment (shown_command c.args.command) (shown_reply c.answer.result) (g.K.Records.shows c.args.records.now) (g.K.Records.shows c.answer.new.records) c.answer.ensures.turn (rw (← c.self.view_is)) (rw (← c.self.view_is, read.clock))

pub returns-clause-records : goal.returns-clause-records
returns-clause-records g c =
    let w = c.args.self.now in
    let moment = c.next_moment-self-inside.result in
    let read = c.next_moment-self-inside.ensures in
    turned-records w _ c.answer.new.self moment (shown_command c.args.command) (shown_reply c.answer.result) (g.K.Records.shows c.args.records.now) (g.K.Records.shows c.answer.new.records) c.answer.ensures.turn (rw (← c.self.view_is)) (rw (← c.self.view_is, read.clock))
