use Rattle.std.proofs.Common.{ap, ◌∙◌}
use Rattle.proxy_entries.specs.Stored.{shown_negatives}
use Rattle.proxy_entries.proofs.NegativeLemmas.{written}
use Rattle.proxy_entries.proofs.negatives.set.Goals as goal

pub returns-clause-ok : goal.returns-clause-ok
returns-clause-ok c = ap shown_negatives c.in_ok-insert.ensures.entries ∙ written c.args.key c.args.moment c.args.negatives.now.entries c.in_ok-insert.ensures.was_ordered
