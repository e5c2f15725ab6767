use Rattle.std.proofs.Common.{sym}
use Rattle.path_patterns.proofs.Splits.{split_at, split_none}
use Rattle.path_patterns.proofs.segments.split_segment.Goals as goal

pub returns-in-Some : goal.returns-in-Some
returns-in-Some c = split_at c.args.text.now c.in-Some.at (sym c.in-Some.ensures.place)

pub returns-in-None : goal.returns-in-None
returns-in-None c = split_none c.args.text.now (sym c.in-None.ensures.place)
