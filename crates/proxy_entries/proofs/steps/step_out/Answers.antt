use Rattle.proxy_entries.specs.Stored.{shown_negatives}
use Rattle.proxy_entries.proofs.MomentLemmas.{negative-in-time}
use Rattle.proxy_entries.proofs.steps.step_out.Goals as goal

pub is_fresh_negative-requires-clause-timely : goal.is_fresh_negative-requires-clause-timely
is_fresh_negative-requires-clause-timely c = negative-in-time c.args.path.now (shown_negatives c.args.negatives.now.entries) c.negative_at.result c.requires.timely c.negative_at.ensures
