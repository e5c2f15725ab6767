use Rattle.std.proofs.Common.{◌≡◌, ◌+◌, ◌-◌, ◌≤◌, length, rules, arith}
use Rattle.http_wire.proofs.WireLemmas.{came_behind}
use Rattle.http_wire.proofs.wires.read_to.Goals as goal

pub returns-clause-given : goal.returns-clause-given
returns-clause-given g c =
    let size = c.len-held.result in
    let lent = c.deref_mut.result.now in
    let read = c.in_ok-count.ensures in
    let room : length c.read_full.new.buffer ≡ length lent - size = search rules in
    let ordered : size ≤ c.args.end = omega (arith, c.requires.short, c.len-held.ensures) in
    let fits : size + c.in_ok-count.count ≤ c.resize.new.self.len = omega (arith, read.count, room, ordered, c.in-Ok.ensures.len, c.deref_mut.ensures.len) in (
      c.in_ok-count.count,
      came_behind c.args.body.now.items _ _ lent c.read_full.new.buffer _ _ c.truncate.new.self.items size c.in_ok-count.count c.args.end c.resize.new.self.len _ _
          (omega (arith, c.args.body.now.ok.0, c.len-held.ensures)) ordered c.deref_mut.ensures.value c.in-Ok.ensures.items read.count fits
          c.truncate.ensures.items read.given,
    )
