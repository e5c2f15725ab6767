use Rattle.std.proofs.Common.{option_map, ap, ◌∙◌}
use Rattle.proxy_entries.specs.Stored.{shown_kept}
use Rattle.proxy_entries.proofs.DocumentLemmas.{found}
use Rattle.proxy_entries.proofs.KeyLemmas.{option_map-copied}
use Rattle.proxy_entries.proofs.documents.find.Goals as goal

pub returns : goal.returns
returns c = option_map-copied (shown_kept c.args.path.now) c.get.result ∙ ap (option_map (shown_kept c.args.path.now)) c.get.ensures.value ∙ found c.args.path.now c.args.documents.now.entries
