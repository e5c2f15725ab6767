use Rattle.std.proofs.Common.{ap, ◌∙◌, option_map}
use Rattle.proxy_entries.specs.Stored.{shown_negative}
use Rattle.proxy_entries.proofs.NegativeLemmas.{found}
use Rattle.proxy_entries.proofs.negatives.negative_at.Goals as goal

pub returns-in-Some : goal.returns-in-Some
returns-in-Some c = ap (option_map (shown_negative c.args.path.now)) c.in-Some.ensures.value ∙ found c.args.path.now c.args.negatives.now.entries

pub returns-in-None : goal.returns-in-None
returns-in-None c = ap (option_map (shown_negative c.args.path.now)) c.in-None.ensures.value ∙ found c.args.path.now c.args.negatives.now.entries
