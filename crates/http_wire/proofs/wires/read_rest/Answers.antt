use Rattle.std.proofs.Common.{◌∙◌, ℕ, ◌+◌, List, ◌++◌, length, ap, arith, length-append}
use Rattle.http_wire.proofs.ParsedLemmas.{on_err}
use Rattle.http_wire.proofs.WireLemmas.{body_gone, came_on}
use Rattle.http_wire.proofs.wires.read_rest.Goals as goal

pub returns-in_err-read_to-clause-failed : goal.returns-in_err-read_to-clause-failed
returns-in_err-read_to-clause-failed g c =
    let came = c.loop-body.invariant.given.1 in
    let gone = c.in_err-read_to.ensures.failed in
    let sizes = ap (λ (l : List ℕ). length l) came.2 in
    on_err c.from_residual.result _ (
      came.0 ++ gone.0,
      omega (arith, length-append came.0 gone.0, sizes, length-append c.args.body.now.items came.0, gone.1, c.args.body.now.ok.0, c.loop-body.body.ok.0, c.min.ensures, c.len-in-loop-body.ensures, c.len-in-loop-body-2.ensures, c.len.ensures, c.loop-body-test.true),
      came.3 ∙ body_gone came.0 gone.0 _ _ gone.2,
    )

pub returns-then-len-end-clause-given : goal.returns-then-len-end-clause-given
returns-then-len-end-clause-given g c =
    let before = c.loop-body.invariant.given in
    let more = c.in_ok-read_to.ensures.given in (
      before.0 + more.0,
      came_on c.args.body.now.items c.loop-body.body.items c.read_to.new.body.items before.0 more.0 _ _ _ before.1 more.1,
    )

pub loop-body-preserved : goal.loop-body-preserved
loop-body-preserved g c =
    let before = c.loop-body.invariant in
    let e = c.in_ok-read_to.ensures in
    let came = before.given.1 in
    let sizes = ap (λ (l : List ℕ). length l) came.2 in record {
      within = omega (arith, e.within, c.min.ensures, c.len-in-loop-body.ensures, c.len-in-loop-body-2.ensures, c.len.ensures, c.loop-body-test.true);
      room = omega (arith, before.room, e.room);
      given = (
        before.given.0 + e.given.0,
        came_on c.args.body.now.items c.loop-body.body.items c.read_to.new.body.items before.given.0 e.given.0 _ _ _ came e.given.1,
      );
      unasked = λ whole. absurd (omega (arith, whole, sizes, length-append c.args.body.now.items came.0, c.args.body.now.ok.0, c.loop-body.body.ok.0, c.len.ensures, c.loop-body-test.true));
      read_faults = e.cause ∙ before.read_faults;
      taken = e.taken ∙ before.taken;
      write_faults = e.write_faults ∙ before.write_faults;
    }
