use Rattle.std.proofs.Common.{◌∙◌, ℕ, ◌≤◌, List, ◌++◌, length, ap, arith, length-append}
use Rattle.std.proofs.lemmas.List.{drop_all, length-take}
use Rattle.http_wire.proofs.WireLemmas.{body_given, body_gone}
use Rattle.http_wire.proofs.wires.Wire.body.Goals as goal

pub returns-in_err-read_rest-clause-fault_rest : goal.returns-in_err-read_rest-clause-fault_rest
returns-in_err-read_rest-clause-fault_rest g c = λ e.
    let held = c.args.self.now in
    let gone = c.in_err-read_rest.ensures.failed in
    let front = ap (λ (l : List ℕ). length l) c.in_ok-hand_out.ensures.body ∙ length-take c.args.count held in
    let short : length held ≤ c.args.count = omega (arith, front, gone.1, c.hand_out.new.body.ok.0) in (
      held ++ gone.0,
      omega (arith, length-append held gone.0, front, gone.1, c.hand_out.new.body.ok.0),
      c.in_ok-hand_out.ensures.rest ∙ drop_all c.args.count held short,
      body_gone held gone.0 _ _ gone.2,
    )

pub returns-clause-given : goal.returns-clause-given
returns-clause-given g c =
    let more = c.in_ok-read_rest.ensures.given in
    body_given c.args.self.now c.hand_out.new.body.items c.read_rest.new.body.items c.hand_out.new.self c.args.count more.0 _ _
    c.in_ok-hand_out.ensures.body c.in_ok-hand_out.ensures.rest more.1
    (omega (arith, c.read_rest.new.body.ok.0, c.in_ok-read_rest.ensures.within, c.len.ensures, c.if-len-count.false))
