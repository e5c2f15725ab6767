use Rattle.std.proofs.Common.{◌-◌, arith}
use Rattle.mvn_doc.proofs.PickedSteps.{found_cut}
use Rattle.mvn_doc.proofs.value.last_cut.Goals as goal

pub returns-then-bytes-end-eq45 : goal.returns-then-bytes-end-eq45
returns-then-bytes-end-eq45 c =
    found_cut c.args.bytes.now (c.loop-end.end - 1) c.loop-end.end (omega arith) c.loop-end.invariant.inside c.if-bytes-end-eq45.true c.loop-end.invariant.behind
