use Rattle.std.proofs.Common.{◌-◌, ◌∙◌}
use Rattle.http_wire.proofs.WireLemmas.{grown}
use Rattle.http_wire.proofs.wires.Wire.fill.Goals as goal

pub returns-clause-given : goal.returns-clause-given
returns-clause-given g c =
    let i = c.self.inside in
    let t = g.S.Tells in
    let e = c.in_ok-count.ensures in
    grown c.read_after.new.buffer c.args.self.now (i.end - i.start) c.in_ok-count.count
    (t.left c.args.source.now) (t.left c.read_after.new.source)
    (e.kept ∙ c.move_to_front.ensures ∙ c.self.view_is)
    e.count
    e.given
