use Rattle.std.proofs.Common.{ℕ, List, length, drop, sym, ap, ◌∙◌, ◌≡◌, ◌-◌, arith}
use Rattle.httparse.proofs.RunLemmas.{length-slice_range}
use Rattle.http_wire.proofs.WireLemmas.{slice_range-add}
use Rattle.http_wire.proofs.wires.Wire.use_up.Goals as goal

pub returns : goal.returns
returns c =
    let i = c.self.inside in
    let held : length c.args.self.now ≡ i.end - i.start =
    ap (λ (l : List ℕ). length l) (sym c.self.view_is) ∙ length-slice_range i.buffer i.start i.end c.self.invariant.0 (omega arith) in
    slice_range-add i.buffer i.start i.end c.args.count (omega arith) ∙ ap (λ (l : List ℕ). drop c.args.count l) c.self.view_is
