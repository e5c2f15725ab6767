use Rattle.std.proofs.Common.{rules, ◌≡◌, ◌∷◌, ◌++◌, [], Some}
use Rattle.std.proofs.lemmas.List.Elements.{All-pop}
use Rattle.turn_lock.specs.History.{IsStep}
use Rattle.turn_lock.specs.Seats.{IsSeatOf, IsNoteOf}
use Rattle.lock_tests.proofs.threads.both_call.Goals as goal

pub returns-clause-seats : goal.returns-clause-seats
returns-clause-seats g c =
    let steps = IsStep g.T.Thing.fixed g.T.Thing.may_ask g.T.Thing.turned in
    let items : c.all_call-outs.result.0.items ≡ c.pop.new.self.items ++ c.in-Some.one ∷ [] = search rules in
    let popped = All-pop (λ out. IsSeatOf steps c.args.turns.now out.0 × IsNoteOf steps c.args.turns.now out.1.note) c.all_call-outs.result.0.items c.pop.new.self.items (Some c.in-Some.one) items c.all_call-outs.ensures.outs in
    (popped.1.0, c.all_call-outs.ensures.last.0)

pub returns-clause-notes : goal.returns-clause-notes
returns-clause-notes g c =
    let steps = IsStep g.T.Thing.fixed g.T.Thing.may_ask g.T.Thing.turned in
    let items : c.all_call-outs.result.0.items ≡ c.pop.new.self.items ++ c.in-Some.one ∷ [] = search rules in
    let popped = All-pop (λ out. IsSeatOf steps c.args.turns.now out.0 × IsNoteOf steps c.args.turns.now out.1.note) c.all_call-outs.result.0.items c.pop.new.self.items (Some c.in-Some.one) items c.all_call-outs.ensures.outs in
    (popped.1.1, c.all_call-outs.ensures.last.1)
