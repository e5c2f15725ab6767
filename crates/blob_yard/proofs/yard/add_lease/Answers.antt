use Rattle.std.proofs.Common.{◌∙◌}
use Rattle.blob_yard.proofs.MapLemmas.{insert_entry-last}
use Rattle.blob_yard.proofs.yard.add_lease.Goals as goal

pub returns-clause-ok : goal.returns-clause-ok
returns-clause-ok c = c.in_ok-insert.ensures.entries ∙ insert_entry-last c.args.number c.args.blob c.args.leases.now.entries c.requires
