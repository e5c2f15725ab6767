use Rattle.served_laws.proofs.Runs.{begun-turns}
use Rattle.served_laws.proofs.crashes.replays_keep_created_files.Goals as goal

pub returns : goal.returns
returns g c settings old new ending calls r =
    begun-turns settings old.records old.place.resources.blobs r.cleared old.clock r.begun r.begins new.records r.core r.entries r.made r.holds
