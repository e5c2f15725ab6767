use Rattle.record_disk.proofs.Moments.{told_map, told_then, cuts_cut, cuts_sync}
use Rattle.record_disk.proofs.durable.cut_through.Goals as goal

pub returns-in_err-cut-clause-told : goal.returns-in_err-cut-clause-told
returns-in_err-cut-clause-told g c = told_map _ _ _ _ (cuts_cut c.args.size) c.cut.ensures.told

pub returns-clause-told : goal.returns-clause-told
returns-clause-told g c =
    told_then _ _ _ _ _ _ (cuts_sync c.args.size c.sync.result) (told_map _ _ _ _ (cuts_cut c.args.size) c.cut.ensures.told) c.sync.ensures.told
