use Rattle.std.proofs.Common.{ap, sym, subst, ◌∙◌}
use Rattle.proxy_entries.specs.Stored.{AreInTime, shown_negatives}
use Rattle.proxy_entries.proofs.NegativeLemmas.{removed}
use Rattle.proxy_entries.proofs.MomentLemmas.{in-time-left}
use Rattle.proxy_entries.proofs.negatives.remove_negative.Goals as goal

pub returns-clause-shown : goal.returns-clause-shown
returns-clause-shown c = ap shown_negatives c.remove.ensures.entries ∙ removed c.args.path.now c.args.negatives.now.entries c.len-len.ensures.ordered

pub returns-clause-timely : goal.returns-clause-timely
returns-clause-timely c all = subst AreInTime (sym (returns-clause-shown c)) (in-time-left c.args.path.now (shown_negatives c.args.negatives.now.entries) all)
