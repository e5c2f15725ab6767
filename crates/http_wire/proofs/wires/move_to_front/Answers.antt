use Rattle.http_wire.proofs.WireLemmas.{take-moved}
use Rattle.http_wire.proofs.wires.move_to_front.Goals as goal

pub returns : goal.returns
returns c =
    take-moved c.args.buffer.now c.rotate_left.new.self c.args.start c.args.end c.requires.ordered c.requires.within c.rotate_left.ensures.after
