use Rattle.std.proofs.Common.{refl, subst, slice_range}
use Rattle.http_wire.specs.Parsed.{IsJudged}
use Rattle.http_wire.proofs.ParsedLemmas.{on_err}
use Rattle.http_wire.proofs.WireLemmas.{taken_none, taken_refused, taken_whole}
use Rattle.http_wire.proofs.wires.Wire.take_head.Goals as goal

pub returns-in_err-head-clause-memory : goal.returns-in_err-head-clause-memory
returns-in_err-head-clause-memory c =
    on_err _ _ (taken_none c.args.self.now c.held.result.now c.args.start c.args.end c.requires.room c.requires.head c.held.ensures.value c.in_err-head.ensures.memory)

pub returns-in-Ok-clause-taken : goal.returns-in-Ok-clause-taken
returns-in-Ok-clause-taken c =
    taken_whole c.args.self.now c.held.result.now c.use_up.new.self c.args.start c.args.end c.in-Ok.head c.requires.room c.requires.head
    c.held.ensures.value (subst (IsJudged (slice_range c.held.result.now c.args.start c.args.end)) c.in-Ok.is c.in_ok-head.ensures.judged) c.use_up.ensures

pub returns-in-Err-clause-taken : goal.returns-in-Err-clause-taken
returns-in-Err-clause-taken c =
    taken_refused c.args.self.now c.held.result.now c.args.self.now c.args.start c.args.end c.in-Err.fault c.requires.room c.requires.head
    c.held.ensures.value (subst (IsJudged (slice_range c.held.result.now c.args.start c.args.end)) c.in-Err.is c.in_ok-head.ensures.judged) refl
