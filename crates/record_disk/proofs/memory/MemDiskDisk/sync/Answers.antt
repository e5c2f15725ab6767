use Rattle.std.proofs.Common.{ap, arith}
use Rattle.record_disk.specs.Memory.{MemState}
use Rattle.record_disk.proofs.Recording.{sync_more, sync_told}
use Rattle.record_disk.proofs.memory.MemDiskDisk.sync.Goals as goal

pub invariant_of-self-2 : goal.invariant_of-self-2
invariant_of-self-2 c =
    ((sync_more _ _ _ _ c.self.invariant.0 _ c.note_call.ensures.calls).recorded, omega arith, omega arith, omega arith, omega arith, omega arith, omega arith, omega arith)

pub returns-clause-told : goal.returns-clause-told
returns-clause-told c = sync_told _ _ _ _ c.self.invariant.0 _ c.note_call.ensures.calls _ (ap (λ (v : MemState). v.trace) c.self.view_is)
