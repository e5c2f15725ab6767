use Rattle.std.proofs.Common.{length}
use Rattle.record_disk.proofs.Moments.{told_map, told_then, tears_write, tears_sync}
use Rattle.record_disk.proofs.durable.write_through.Goals as goal

pub returns-in_err-write_at-clause-told : goal.returns-in_err-write_at-clause-told
returns-in_err-write_at-clause-told g c =
    told_map _ _ _ _ (tears_write c.args.at (length c.args.bytes.now)) c.write_at.ensures.told

pub returns-clause-told : goal.returns-clause-told
returns-clause-told g c =
    told_then _ _ _ _ _ _ (tears_sync c.args.at (length c.args.bytes.now) c.sync.result) (told_map _ _ _ _ (tears_write c.args.at (length c.args.bytes.now)) c.write_at.ensures.told) c.sync.ensures.told
