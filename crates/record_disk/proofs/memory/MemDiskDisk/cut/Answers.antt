use Rattle.std.proofs.Common.{ap, arith}
use Rattle.record_disk.specs.Memory.{MemState}
use Rattle.record_disk.proofs.Recording.{cut_more}
use Rattle.record_disk.proofs.memory.MemDiskDisk.cut.Goals as goal

pub invariant_of-self-in-None : goal.invariant_of-self-in-None
invariant_of-self-in-None c =
    ((cut_more _ _ _ _ c.self.invariant.0 c.args.size _ _ c.note_call.ensures.calls c.truncate.ensures.items).recorded, omega arith, omega arith, omega arith, omega arith, omega arith, omega arith, omega arith)

pub invariant_of-self-in-Some : goal.invariant_of-self-in-Some
invariant_of-self-in-Some c =
    ((cut_more _ _ _ _ c.self.invariant.0 c.args.size _ _ c.note_call.ensures.calls c.truncate.ensures.items).recorded, omega arith, omega arith, omega arith, omega arith, omega arith, omega arith, omega arith)

pub returns-in-None-clause-told : goal.returns-in-None-clause-told
returns-in-None-clause-told c =
    (cut_more _ _ _ _ c.self.invariant.0 c.args.size _ _ c.note_call.ensures.calls c.truncate.ensures.items).may_have _ (ap (λ (v : MemState). v.trace) c.self.view_is)

pub returns-in-None-clause-done : goal.returns-in-None-clause-done
returns-in-None-clause-done c =
    (cut_more _ _ _ _ c.self.invariant.0 c.args.size _ _ c.note_call.ensures.calls c.truncate.ensures.items).done _ (ap (λ (v : MemState). v.trace) c.self.view_is)

pub returns-in-Some-clause-told : goal.returns-in-Some-clause-told
returns-in-Some-clause-told c =
    (cut_more _ _ _ _ c.self.invariant.0 c.args.size _ _ c.note_call.ensures.calls c.truncate.ensures.items).may_have _ (ap (λ (v : MemState). v.trace) c.self.view_is)
