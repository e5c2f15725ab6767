use Rattle.std.proofs.Common.{option_map, ap, ◌∙◌}
use Rattle.ordered_rows.specs.Rows.{shown_at}
use Rattle.ordered_rows.proofs.MapLemmas.{found, option_map-copied}
use Rattle.ordered_rows.proofs.rows.find.Goals as goal

pub returns : goal.returns
returns g c = option_map-copied (shown_at c.args.path.now) c.get.result ∙ ap (option_map (shown_at c.args.path.now)) c.get.ensures.value ∙ found c.args.path.now c.args.rows.now.entries
